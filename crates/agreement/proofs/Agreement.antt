-- Condition 3, of the definitions: wherever the check passes, the finders agree.
-- Assumes nothing.
use Rattle.std.proofs.Common.{ℕ, ◌+◌, ◌≤◌, ◌<◌, ◌≡◌, refl, sym, ◌∙◌, subst, inl, inr, arith, List, [], ◌∷◌, length, reverse, Ok, Err}
use Rattle.std.specs.Prelude.{◌⊎◌}
use Rattle.common.specs.declared.Refusal.TheVariants.{NothingThere}
use Rattle.constants.specs.Raw.{nesting_role_of}
use Rattle.constants.specs.declared.Role.TheVariants.{Neither, Opens, Closes}
use Rattle.iter.specs.Step.{scan_of}
use Rattle.iter.specs.Reading.{bytes_at, Rec, Reading, rec_at, read_of, OneOf, Begins}
use Rattle.iter.specs.declared.Record.{Record}
use Rattle.iter.specs.declared.Next.TheVariants as N
use Rattle.iter.proofs.Reading.{step_fits, read_by}
use Rattle.iter.proofs.Records.{Rising, rising}
use Rattle.chain.specs.Finding.{Search, seen}
use Rattle.check_nesting.specs.declared.act.Open.{Open}
use Rattle.check_nesting.specs.Stack.{open_scope, inner_index}
use Rattle.check_nesting.proofs.Nesting.{good_nests}
use Rattle.walk.specs.Walk.{walk_of}
use Rattle.walk.proofs.Walks.{walk_at}
use Rattle.jump.specs.Jump.{jump_from, jump_of}
use Rattle.climb.specs.Opener.{opener_of}
use Rattle.climb.specs.Climb.{reached_by, climb_of}
use Rattle.agreement.specs.Agreement.{OpenerBegins, Agreement, Condition3, answers_of}
use Rattle.agreement.proofs.Nest.{indexes, length_indexes, NestsAt, First, done, passes, opens, closes, nests-ind}
use Rattle.agreement.proofs.Turns.{same_out, walk_end_lem, walk_same, walk_past, walk_plain, walk_open, walk_close}
use Rattle.agreement.proofs.Agree.{Order, less, same, more, order, Agree, both, none, agree}
use Rattle.agreement.proofs.Parents.{opener-found, Up, top, over, up_later, up_out, climb_opener}

-- of records that stand one behind the other from p on, one of index i lies at p or later
one_from : (P : Rec → Type 0) (i : ℕ) → ((r : Rec) → P r → r.index ≡ i) → (p : ℕ) (rs : List Rec) → Rising p rs → OneOf P rs → p ≤ i
one_from P i at p [] ri b = absurd b
one_from P i at p (r ∷ rs) ri (inl e) = let l : p ≤ r.index = ri.0 in let f : r.index ≡ i = at r e in omega arith
one_from P i at p (r ∷ rs) ri (inr b) =
    let l : p ≤ r.index = ri.0 in
    let m = one_from P i at (r.index + 2 + length r.bytes) rs ri.1 b in
    omega arith

-- an opener that begins is a record that begins
one_of : (P Q : Rec → Type 0) → ((r : Rec) → P r → Q r) → (rs : List Rec) → OneOf P rs → OneOf Q rs
one_of P Q f [] b = absurd b
one_of P Q f (r ∷ rs) (inl x) = inl (f r x)
one_of P Q f (r ∷ rs) (inr b) = inr (one_of P Q f rs b)

module _ (s : List ℕ) (P : Rec → Type 0) where
  -- one of the records that steps from p yield has the property: none does at the end, and else the first one or a later one
  abbrev From : ℕ → Type 0
  From p = OneOf P (read_of s p).recs

  from_end : (p q : ℕ) → (scan_of s p).step ≡ Ok (N.End q) → From p → ⊥
  from_end p q e b = subst (λ (r : Reading). OneOf P r.recs) (read_by s p (Ok (N.End q)) e) b

  module _ (p : ℕ) (it : Record) (e : (scan_of s p).step ≡ Ok (N.Record it)) where
    from_is : From p → P (rec_at s (scan_of s p) it) ⊎ From it.next
    from_is b = subst (λ (r : Reading). OneOf P r.recs) (read_by s p (Ok (N.Record it)) e) b

    from_with : P (rec_at s (scan_of s p) it) ⊎ From it.next → From p
    from_with b = subst (λ (r : Reading). OneOf P r.recs) (sym (read_by s p (Ok (N.Record it)) e)) b

module _ (s : List ℕ) (i : ℕ) where
  abbrev Is : Rec → Type 0
  Is r = r.index ≡ i

  abbrev IsOpener : Rec → Type 0
  IsOpener r = (r.index ≡ i) × (nesting_role_of r.bytes ≡ Opens)

  -- the walk from p, with the openers st open
  abbrev walk_from_stack : ℕ → List Open → Search
  walk_from_stack p st = walk_at s i p (indexes st)

  -- climbing gives a stack, reversed
  abbrev Climbs : List ℕ → Type 0
  Climbs st = climb_of s i ≡ reached_by (reverse st)

  -- whether a record begins at i, and whether the walk answers; and where it is an opener, what climbing gives
  data Met (p : ℕ) (st : List Open) : Type 0 where
    found : {gs : List ℕ} → Begins s p i → (walk_from_stack p st).out ≡ Ok gs → (OpenerBegins s p i → Climbs gs) → Met p st
    lost : (Begins s p i → ⊥) → (walk_from_stack p st).out ≡ Err NothingThere → Met p st

  module _ (p : ℕ) (it : Record) (st : List Open) (h : (scan_of s p).step ≡ Ok (N.Record it)) where
    -- the record of p's step lies before i
    past : (gs : List Open) → it.index < i → walk_from_stack p st ≡ seen (rec_at s (scan_of s p) it) (walk_from_stack it.next gs) → Met it.next gs → Met p st
    past gs l w (found b q c) =
        found (from_with s Is p it h (inr b)) (same_out w ∙ q)
        (λ o.
        elim (from_is s IsOpener p it h o) [
          | inl e ↦ (let f : it.index ≡ i = e.0 in absurd (omega arith))
          | inr d ↦ c d
        ])
    past gs l w (lost d q) =
        lost (λ b. elim (from_is s Is p it h b) [ inl e ↦ absurd (omega arith) | inr c ↦ d c ]) (same_out w ∙ q)

    -- none that comes later begins at the index of p's step or before it
    later : (P : Rec → Type 0) → ((r : Rec) → P r → r.index ≡ i) → i ≤ it.index → OneOf P (read_of s it.next).recs → ⊥
    later P at l b =
        let y = step_fits s p it h in
        let f : it.next ≤ i = one_from P i at it.next (read_of s it.next).recs (rising s it.next) b in
        absurd (omega arith)

    meets : (it.index < i → Met p st) → (it.index ≡ i → nesting_role_of (bytes_at s it) ≡ Opens → Climbs (indexes st)) → Met p st
    meets before climbs = by (order it.index i)
      where
        by : Order it.index i → Met p st
        by (less l) = before l
        by (same e) =
            let w = walk_same s i p (indexes st) it h e in
            found (from_with s Is p it h (inl e)) (same_out w)
            (λ o.
            elim (from_is s IsOpener p it h o) [
              | inl d ↦ climbs e d.1
              | inr d ↦ absurd (later IsOpener (λ r x. x.0) (omega arith) d)
            ])
        by (more l) =
            lost
            (λ b.
            elim (from_is s Is p it h b) [
              | inl e ↦ absurd (omega arith)
              | inr c ↦ absurd (later Is (λ r x. x) (omega arith) c)
            ])
            (same_out (walk_past s i p (indexes st) it h l))

  abbrev Meets : ℕ → List Open → Type 0
  Meets p st = length st ≤ 64 → Up s p st → Met p st

  met_on : (p : ℕ) (st : List Open) → First s p st → ((q : ℕ) (gs : List Open) → p < q → q ≤ length s → NestsAt s q gs → Meets q gs) → Meets p st
  met_on p st (done {q = q} h) on m u = lost (from_end s Is p q h) (same_out (walk_end_lem s i p [] q h))
  met_on p st (passes {it = it} h r d) on m u =
      let y = step_fits s p it h in
      meets p it st h
      (λ a. past p it st h st a (walk_plain s i p (indexes st) it h a r)
      (on it.next st (omega arith) (omega arith) d m (up_later it.next (omega arith) u)))
      (λ e o. let z : Neither ≡ Opens = sym r ∙ o in cc)
  met_on p st (opens {it = it} {l = l} h r g z t o d) on m u =
      let y = step_fits s p it h in
      let x : length (indexes st) ≡ length st = length_indexes st in
      let room : length (indexes st) < 64 = omega arith in
      let parent : Ok (inner_index st) ≡ opener_of s it.index = rw (← t) (opener-found s p it h r g) in
      let below : Up s it.index st = up_later it.index (omega arith) u in
      meets p it st h
      (λ a. past p it st h (open_scope it.index l ∷ st) a (walk_open s i p (indexes st) it h a r room)
      (on it.next (open_scope it.index l ∷ st) (omega arith) (omega arith) d o (over (omega arith) z parent below)))
      (λ e q. subst (λ (k : ℕ). climb_of s k ≡ reached_by (reverse (indexes st))) e (climb_opener s it.index st parent m below))
  met_on p _ (closes {it = it} {o = o} {st = st} h r t d) on m u =
      let y = step_fits s p it h in
      meets p it (o ∷ st) h
      (λ a. past p it (o ∷ st) h st a (walk_close s i p o.index (indexes st) it h a r)
      (on it.next st (omega arith) (omega arith) d (omega arith) (up_out it.next (omega arith) u)))
      (λ e q. let z : Closes ≡ Opens = sym r ∙ q in cc)

  met : (p : ℕ) → NestsAt s p [] → Met p []
  met p d = nests-ind s Meets met_on p [] d (omega arith) top

module _ (s : List ℕ) (start i : ℕ) where
  abbrev jumped : Search
  jumped = jump_from s i start []

  abbrev walked : Search
  walked = walk_at s i start []

  join : Agree jumped walked → Met s i start [] → Agreement s start i (answers_of s start i)
  unfolding walk_of jump_of
  join (both {st = st} a b l) (found {gs = gs} d q c) =
      record {
        if_a_record_begins = λ x.
            rw (a, b)
            (record { walking_reads = length walked.visited; jumping_reads = length jumped.visited; walking_finds = refl; jumping_finds = refl; jumping_reads_no_more = l });
        if_none_begins = λ x. absurd (x d);
        if_an_opener_begins = λ o. rw q (c o);
      }
  join (both a b l) (lost x q) = cc
  join (none a b) (found d q c) = cc
  join (none a b) (lost x q) =
      record {
        if_a_record_begins = λ d. absurd (x d);
        if_none_begins = λ y. rw (a, b) (record { walking_refuses = refl; jumping_refuses = refl });
        if_an_opener_begins = λ o. absurd (x (one_of (IsOpener s i) (Is s i) (λ r y. y.0) (read_of s start).recs o));
      }

pub condition3 : (s : List ℕ) (start i : ℕ) → Condition3 s start i (answers_of s start i)
condition3 s start i n e =
    let d : NestsAt s start [] = good_nests s start e in
    join s start i (agree s i start d) (met s i start d)
