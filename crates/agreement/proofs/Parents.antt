-- The parent fields of an opener, climbed, give the scopes that are open around it.
-- Assumes nothing.
use Rattle.std.proofs.Common.{ℕ, zero, suc, ◌≤◌, ◌<◌, ◌≡◌, refl, sym, ap, ◌∙◌, eq-eqb, arith, List, [], ◌∷◌, length, reverse, Some, Ok}
use mathlib.Core.List.{reverse_aux}
use Rattle.constants.specs.Kind.{nesting_role}
use Rattle.constants.specs.Raw.{nesting_role_of}
use Rattle.constants.specs.declared.Role.TheVariants.{Opens}
use Rattle.iter.specs.Step.{scan_of, step_of}
use Rattle.iter.specs.Reading.{bytes_at}
use Rattle.iter.specs.declared.Record.{Record}
use Rattle.iter.specs.declared.Next.TheVariants as N
use Rattle.iter.specs.declared.Scan.{Scan}
use Rattle.iter.proofs.Reading.{again}
use Rattle.iter.proofs.Records.{kind_of}
use Rattle.links.specs.Links.{links_of}
use Rattle.links.specs.declared.Links.{Links}
use Rattle.check_nesting.specs.declared.act.Open.{Open}
use Rattle.check_nesting.specs.Stack.{inner_index}
use Rattle.climb.specs.Opener.{opener_of}
use Rattle.climb.specs.Climb.{reached_by, climb_by, climb_on, climb_of}
use Rattle.climb.proofs.Climbs.{climb_top, climb_below}
use Rattle.agreement.proofs.Nest.{indexes}

-- an opener that a step yields is found at its own index, with its parent field
pub opener-found : (s : List ℕ) (p : ℕ) (it : Record) {l : Links} → (scan_of s p).step ≡ Ok (N.Record it) →
    nesting_role_of (bytes_at s it) ≡ Opens → links_of (bytes_at s it) ≡ Some l → Ok l.parent ≡ opener_of s it.index
unfolding opener_of step_of nesting_role_of
opener-found s p it h r g =
    rw (ap (λ (c : Scan). c.step) (again s p it h), eq-eqb it.index it.index refl, ap nesting_role (kind_of s p it h) ∙ r, g)

-- below p each open opener's parent field is the index of the next one out, which lies lower, and the outermost's is 0
pub data Up (s : List ℕ) : ℕ → List Open → Type 0 where
  top : {p : ℕ} → Up s p []
  over : {p : ℕ} {o : Open} {st : List Open} → o.index < p → 0 < o.index → Ok (inner_index st) ≡ opener_of s o.index → Up s o.index st → Up s p (o ∷ st)

pub up_later : {s : List ℕ} {p : ℕ} (q : ℕ) {st : List Open} → p ≤ q → Up s p st → Up s q st
up_later q l top = top
up_later {p = p} q l (over {o = o} a z e u) = let f : o.index < q = omega arith in over f z e u

pub up_out : {s : List ℕ} {p : ℕ} (q : ℕ) {o : Open} {st : List Open} → p ≤ q → Up s p (o ∷ st) → Up s q st
up_out q l (over a z e u) = up_later q (omega arith) u

climb_up : (s : List ℕ) (room k : ℕ) (st : List Open) (links : List ℕ) → length st ≤ room → Up s k st →
    climb_on room s k (inner_index st) links ≡ reached_by (reverse_aux (indexes st) links)
climb_up s room k st links l top = climb_top s k 0 links room refl
climb_up s zero k st links l (over a z e u) = absurd (omega arith)
climb_up s (suc room) k (o ∷ st) links l (over a z e u) =
    climb_below s k o.index links room (λ w. omega arith) a e
    ∙ climb_up s room o.index st (o.index ∷ links) (omega arith) u

pub climb_opener : (s : List ℕ) (i : ℕ) (st : List Open) → Ok (inner_index st) ≡ opener_of s i → length st ≤ 64 → Up s i st →
    climb_of s i ≡ reached_by (reverse (indexes st))
unfolding climb_of
climb_opener s i st e l u = ap (climb_by s i) (sym e) ∙ climb_up s 64 i st [] l u
