-- `session::open` refuses as the reading does, and else opens the participants kept, which is the opening of all of them. Assumes nothing.
use Rattle.session.proofs.Opens.{length-lent, opens-refused, opens-made}
use Rattle.session.proofs.open.Goals as goal

pub returns-in-Err : goal.returns-in-Err
returns-in-Err c = opens-refused c.args.bytes.now c.in-Err.bad c.nowhere.result c.in-Err.ensures c.nowhere.ensures

pub slice_bounds-new-end : goal.slice_bounds-new-end
slice_bounds-new-end c = length-lent c.args.bytes.now c.in-Ok.read c.in-Ok.ensures

pub returns : goal.returns
returns c = opens-made c.args.bytes.now c.in-Ok.read c.new-opened.result c.in-Ok.ensures c.new-opened.ensures
