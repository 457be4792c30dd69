-- One turn of each loop over the lines of a section, on plain values: what is read of the rest from here is what is read of all. Assumes nothing.
use Rattle.std.specs.Prelude.{None, Option, Some, Result, Ok, Err, IsErrAnd, ok_or}
use Rattle.std.specs.Bool.{then_some}
use Rattle.std.proofs.lemmas.Result.{err_from_is_err_and}
use mathlib.Core.Path.{◌≡◌, refl, sym, ap, ◌∙◌}
use mathlib.Core.Bool.{Bool, true, false, not}
use mathlib.Core.List.{List, [], ◌∷◌}
use Prim.Native.Nat.{ℕ, zero, suc, ◌+◌, ◌-◌, ◌<◌, ◌≤◌, min}
use native.Mathlib.Numerals.{add-one}
use native.Mathlib.Omega.{arith}
use lib.Dec.{ltb}
use lib.ListN.{length, set, replicate}
use lib.Seq.{sets}
use Rattle.reader.specs.Lines.{end_of, line_at, next_at}
use Rattle.rules.specs.Model.{Call}
use Rattle.events.specs.Events.{event_of}
use Rattle.events.specs.Told.{is_given, padded}
use Rattle.script.specs.declared.BadScript.{BadScript}
use Rattle.script.specs.declared.Participants.{Participants}
use Rattle.script.specs.Lines.{Reading, Bad, Good, item, items}
use Rattle.script.specs.Read.{bad_line}
use Rattle.script.specs.Told.{read_of, passed_of, gathered}
use Rattle.script.proofs.Items.{item-none, item-good, before, items-first, items-bad}

-- ---- the exit of a `?`

pub exit : {A : Type 0} (r : Result A BadScript) (e : BadScript) → IsErrAnd r (λ d. d ≡ e) → r ≡ Err e
exit r e h = let p = err_from_is_err_and r h in p.1 ∙ ap Err p.2

-- ---- lines passed over

-- the line at a place, by whether it is an event
module _ (script : List ℕ) (at : ℕ) (line : List ℕ) (is : line ≡ line_at script at) (b : Bool) (tells : b ≡ is_given (event_of line)) where
  here : b ≡ is_given (event_of (line_at script at))
  here = tells ∙ ap (λ l. is_given (event_of l)) is

  pass-event : (ended : Bool) (next : ℕ) → ended ≡ ltb (end_of script at) (length script) → not ended ≡ false → next ≡ next_at script at → b ≡ true
      → Ok next ≡ passed_of (item event_of script at)
  pass-event ended next e h n t = by (event_of (line_at script at)) refl (sym t ∙ here)
    where
      by : (o : Option Call) → event_of (line_at script at) ≡ o → true ≡ is_given o → Ok next ≡ passed_of (item event_of script at)
      by None r s = let z : ◌≡◌ {A = ℕ} 0 1 = cc in absurd (omega arith)
      by (Some x) r s = rw (item-good event_of script at ended next x e h n r) refl

  pass-no-event : b ≡ false → Err (bad_line at) ≡ passed_of (item event_of script at)
  pass-no-event f = by (event_of (line_at script at)) refl (sym f ∙ here)
    where
      by : (o : Option Call) → event_of (line_at script at) ≡ o → false ≡ is_given o → Err (bad_line at) ≡ passed_of (item event_of script at)
      by None r s = rw (item-none event_of script at r) refl
      by (Some x) r s = let z : ◌≡◌ {A = ℕ} 0 1 = cc in absurd (omega arith)

  pub pass-told : (ended : Bool) (next : ℕ) → ended ≡ ltb (end_of script at) (length script) → not ended ≡ false → next ≡ next_at script at
      → ok_or (then_some b next) (bad_line at) ≡ passed_of (item event_of script at)
  pass-told ended next e h n = by b refl
    where
      by : (t : Bool) → b ≡ t → ok_or (then_some t next) (bad_line at) ≡ passed_of (item event_of script at)
      by true q = pass-event ended next e h n q
      by false q = pass-no-event q

module _ {X : Type 0} (read : List ℕ → Option X) (script : List ℕ) (n k at : ℕ) (h : k < n) where
  more : n - k ≡ suc (n - (k + 1))
  more = omega arith

  pub pass-bad : (e : BadScript) → Err e ≡ passed_of (item read script at) → Err e ≡ passed_of (items (n - k) read script at)
  pass-bad e h = rw more (by (item read script at) refl h)
    where
      by : (r : Reading X) → item read script at ≡ r → Err e ≡ passed_of r → Err e ≡ passed_of (items (suc (n - (k + 1))) read script at)
      by (Bad p) q h = rw (items-bad read script (n - (k + 1)) at p q) h
      by (Good x p) q h = let z : ◌≡◌ {A = ℕ} 0 1 = cc in absurd (omega arith)

  pub pass-turn : (next : ℕ) → Ok next ≡ passed_of (item read script at)
      → passed_of (items (n - k) read script at) ≡ passed_of (items (n - (k + 1)) read script next)
  pass-turn next e = ap (λ j. passed_of (items j read script at)) more ∙ by (item read script at) refl e
    where
      kept : (x : X) (r : Reading (List X)) → passed_of (before x r) ≡ passed_of r
      kept x (Bad p) = refl
      kept x (Good xs p) = refl

      by : (r : Reading X) → item read script at ≡ r → Ok next ≡ passed_of r
          → passed_of (items (suc (n - (k + 1))) read script at) ≡ passed_of (items (n - (k + 1)) read script next)
      by (Bad p) q e = let z : ◌≡◌ {A = ℕ} 0 1 = cc in absurd (omega arith)
      by (Good x p) q e = let z : next ≡ p = cc in rw (z, items-first read script (n - (k + 1)) at x p q) (kept x (items (n - (k + 1)) read script p))

pub pass-done : {X : Type 0} (read : List ℕ → Option X) (script : List ℕ) (n k at : ℕ) → n ≤ k → Ok at ≡ passed_of (items (n - k) read script at)
unfolding items
pass-done read script n k at h = let z : n - k ≡ 0 = omega arith in rw z refl

-- ---- the participants' lines

-- the indices put into the places from the first on are the list, cut or padded
pub sets-padded : (k : ℕ) (xs : List ℕ) → sets (replicate k 0) 0 xs ≡ padded k xs
sets-padded zero xs = None xs 0
  where
    None : (xs : List ℕ) (i : ℕ) → sets [] i xs ≡ []
    None [] i = refl
    None (x ∷ xs) i = None xs (suc i)
sets-padded (suc k) [] = ap (λ l. 0 ∷ l) (sets-padded k [])
sets-padded (suc k) (x ∷ xs) = after x (replicate k 0) 0 xs ∙ ap (λ l. x ∷ l) (sets-padded k xs)
  where
    after : (z : ℕ) (t : List ℕ) (i : ℕ) (xs : List ℕ) → sets (z ∷ t) (suc i) xs ≡ z ∷ sets t i xs
    after z t i [] = refl
    after z t i (x ∷ xs) = after z (set t i x) (suc i) xs

-- what was read, as the item that it is
pub good-is : {X : Type 0} {r : Reading X} {x : X} {next : ℕ} → Ok (x, next) ≡ read_of r → r ≡ Good x next
good-is {X} {r} {x} {next} e = by r e
  where
    by : (r : Reading X) → Ok (x, next) ≡ read_of r → r ≡ Good x next
    by (Bad p) h = let z : ◌≡◌ {A = ℕ} 0 1 = cc in absurd (omega arith)
    by (Good y p) h =
        let q : ◌≡◌ {A = X × ℕ} (x, next) (y, p) = cc in
        let a : y ≡ x = sym (ap (λ z. z.0) q) in
        let b : p ≡ next = sym (ap (λ z. z.1) q) in
        rw (a, b) refl

module _ (read : List ℕ → Option ℕ) (script indices : List ℕ) (n k at : ℕ) (all : Result (Participants × ℕ) BadScript)
    (inv : all ≡ gathered indices k (items (n - k) read script at)) where
  pub gather-bad : (e : BadScript) → k < n → Err e ≡ read_of (item read script at) → Err e ≡ all
  gather-bad e h is =
      let more : n - k ≡ suc (n - (k + 1)) = omega arith in
      by (item read script at) refl is ∙ sym (inv ∙ ap (λ j. gathered indices k (items j read script at)) more)
    where
      by : (r : Reading ℕ) → item read script at ≡ r → Err e ≡ read_of r → Err e ≡ gathered indices k (items (suc (n - (k + 1))) read script at)
      by (Bad p) q h = rw (items-bad read script (n - (k + 1)) at p q) (let z : e ≡ bad_line p = cc in rw z refl)
      by (Good x p) q h = let z : ◌≡◌ {A = ℕ} 0 1 = cc in absurd (omega arith)

  pub gather-turn : (x next : ℕ) (filled : List ℕ) → k < n → Ok (x, next) ≡ read_of (item read script at) → filled ≡ set indices k x
      → all ≡ gathered filled (k + 1) (items (n - (k + 1)) read script next)
  gather-turn x next filled h e f =
      rw f (inv ∙ ap (gathered indices k) first ∙ by (items (n - (k + 1)) read script next))
    where
      first : items (n - k) read script at ≡ before x (items (n - (k + 1)) read script next)
      first = let more : n - k ≡ suc (n - (k + 1)) = omega arith in rw more (items-first read script (n - (k + 1)) at x next (good-is e))

      by : (r : Reading (List ℕ)) → gathered indices k (before x r) ≡ gathered (set indices k x) (k + 1) r
      by (Bad p) = refl
      by (Good xs p) = let z : k + suc (length xs) ≡ k + 1 + length xs = omega arith in rw (z, add-one k) refl

  pub gather-done : (count : ℕ) → n ≡ k → count ≡ min 33 n → Ok (record { indices = indices; count = count }, at) ≡ all
  unfolding items
  gather-done count h e =
      let z : n - k ≡ 0 = omega arith in
      let y : k + 0 ≡ k = omega arith in
      sym (inv ∙ rw (z, y, e, h) refl)
