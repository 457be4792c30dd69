-- `emission::add_announcement` adds Publish, then Resume and Probe where they are said: the announcement. Assumes nothing.
use Rattle.emission.proofs.Speaking.{announced}
use Rattle.emission.proofs.add_announcement.Goals as goal

pub returns-clause-adds : goal.returns-clause-adds
returns-clause-adds c =
    announced c.args.c c.args.resumes c.args.enclave _ _ _ _ _ _ _ _ _ c.then_some-resume.ensures (rw c.from.ensures at c.then_some-probe.ensures)
    (rw (c.optional_of.ensures, c.optional_of-2.ensures) at c.add-published.ensures.adds) c.add_notice-resumed.ensures.adds c.add_notice.ensures.adds
