-- Jumping and walking agree wherever the check passed.
-- Assumes nothing.
use Rattle.std.proofs.Common.{ℕ, ◌+◌, ◌≤◌, ◌<◌, ◌≡◌, sym, ◌∙◌, arith, List, [], ◌∷◌, length, Ok, Err}
use native.Mathlib.Decide.{dec_lt}
use Rattle.common.specs.declared.Refusal.TheVariants.{NothingThere}
use Rattle.iter.specs.Step.{scan_of}
use Rattle.iter.specs.Reading.{Rec}
use Rattle.iter.specs.declared.Record.{Record}
use Rattle.iter.specs.declared.Next.TheVariants as N
use Rattle.iter.proofs.Reading.{step_fits}
use Rattle.chain.specs.Finding.{Search, seen}
use Rattle.walk.proofs.Walks.{walk_at}
use Rattle.jump.specs.Jump.{jump_from}
use Rattle.check_nesting.specs.declared.act.Open.{Open}
use Rattle.check_nesting.specs.Stack.{open_scope}
use Rattle.agreement.proofs.Nest.{indexes, length_indexes, NestsAt, First, done, passes, opens, closes, nests-ind}
use Rattle.agreement.proofs.Turns.{same_out, same_count, walk_end_lem, jump_end, walk_same, walk_past, jump_same, jump_past, walk_plain, jump_plain, walk_open, jump_push, jump_over}
use Rattle.agreement.proofs.Skip.{through_one, Skip, skip}

-- where an index k lies, seen from i
pub data Order (k i : ℕ) : Type 0 where
  less : k < i → Order k i
  same : k ≡ i → Order k i
  more : i < k → Order k i

pub order : (k i : ℕ) → Order k i
order k i = go (dec_lt k i) (dec_lt i k)
  where
    go : Dec (k < i) → Dec (i < k) → Order k i
    go (yes l) d = less l
    go (no a) (yes l) = more l
    go (no a) (no b) = same (omega arith)

-- i lies up to e, or past it
below : {X : Type 0} (e i : ℕ) → (i ≤ e → X) → (e < i → X) → X
below {X} e i a b = go (dec_lt e i)
  where
    go : Dec (e < i) → X
    go (yes q) = b q
    go (no q) = a (omega arith)

-- both answer with one stack, jumping with no more records read; or both refuse with 14
pub data Agree (j w : Search) : Type 0 where
  both : {st : List ℕ} → j.out ≡ Ok st → w.out ≡ Ok st → length j.visited ≤ length w.visited → Agree j w
  none : j.out ≡ Err NothingThere → w.out ≡ Err NothingThere → Agree j w

-- after records that jumping visits, and no fewer that walking does
along : {j j' w w' : Search} (n : ℕ) → j.out ≡ j'.out → length j.visited ≡ n + length j'.visited →
    w.out ≡ w'.out → n + length w'.visited ≤ length w.visited → Agree j' w' → Agree j w
along n jo jv wo wv (both a b l) = both (jo ∙ a) (wo ∙ b) (omega arith)
along n jo jv wo wv (none a b) = none (jo ∙ a) (wo ∙ b)

-- one record that both visit
along_one : {j j' w w' : Search} (r : Rec) → j ≡ seen r j' → w ≡ seen r w' → Agree j' w' → Agree j w
along_one r p q = along 1 (same_out p) (same_count p ∙ (omega arith)) (same_out q) (let n = same_count q in omega (arith, n))

-- the innermost open scope reaches i
abbrev Reach : ℕ → List Open → Type 0
Reach i [] = Unit {0}
Reach i (o ∷ st) = i ≤ o.end

module _ (s : List ℕ) (i : ℕ) where
  abbrev Goal : ℕ → List Open → Type 0
  Goal p st = Agree (jump_from s i p (indexes st)) (walk_at s i p (indexes st))

  -- a record before i is dealt with by `before`; at i and past it nothing else matters
  meets : {it : Record} (p : ℕ) (st : List Open) → (scan_of s p).step ≡ Ok (N.Record it) → (it.index < i → Goal p st) → Goal p st
  meets {it} p st h before = go (order it.index i)
    where
      go : Order it.index i → Goal p st
      go (less a) = before a
      go (same a) =
          let j = jump_same s i p (indexes st) it h a in
          let w = walk_same s i p (indexes st) it h a in
          both (same_out j) (same_out w) (let n = same_count (j ∙ sym w) in omega (arith, n))
      go (more a) =
          none (same_out (jump_past s i p (indexes st) it h a)) (same_out (walk_past s i p (indexes st) it h a))

  abbrev Agrees : ℕ → List Open → Type 0
  Agrees p st = Reach i st → Goal p st

  agree_on : (p : ℕ) (st : List Open) → First s p st → ((q : ℕ) (gs : List Open) → p < q → q ≤ length s → NestsAt s q gs → Agrees q gs) → Agrees p st
  agree_on p st (done {q = q} h) on c = none (same_out (jump_end s i p [] q h)) (same_out (walk_end_lem s i p [] q h))
  agree_on p st (passes {it = it} h r d) on c =
      meets p st h
      (λ a.
      let y = step_fits s p it h in
      along_one _ (jump_plain s i p (indexes st) it h a r) (walk_plain s i p (indexes st) it h a r)
      (on it.next st (omega arith) (omega arith) d c))
  agree_on p st (opens {it = it} {l = k} h r g z t o d) on c =
      meets p st h
      (λ a.
      let y = step_fits s p it h in
      let x : length (indexes st) ≡ length st = length_indexes st in
      let room : length (indexes st) < 64 = omega arith in
      let w : Skip s i it.next (open_scope it.index k ∷ st) k.end st = skip s i (open_scope it.index k) st it.next d in
      let ny = step_fits s k.end w.closing w.lands in
      let ne : it.next ≤ k.end = w.from in
      below k.end i
      (λ (q : i ≤ k.end).
      along_one _ (jump_push s i p (indexes st) it h a r g ne q room) (walk_open s i p (indexes st) it h a r room)
      (on it.next (open_scope it.index k ∷ st) (omega arith) (omega arith) d q))
      (λ (q : k.end < i).
      let b = jump_over s i p (indexes st) it h a r g ne q w.lands w.here w.closer in
      let u = through_one _ (walk_open s i p (indexes st) it h a r room) in
      let v = w.walked q in
      along 2 (same_out b) (same_count b ∙ (omega arith)) (u.outs ∙ v.outs) (omega (arith, u.more, v.more)) (on w.closing.next st (omega arith) (omega arith) w.rest c)))
  agree_on p _ (closes {o = o} {st = st} h r t d) on c = meets p (o ∷ st) h (λ a. absurd (omega arith))

  pub agree : (p : ℕ) → NestsAt s p [] → Goal p []
  agree p d = nests-ind s Agrees agree_on p [] d tt
