-- Reading from the first record on gives what reading from the start gives, but for the fillers before it: the loops do what the squeeze is, and the
-- plan is what they find.
-- Assumes nothing.
use Rattle.std.proofs.Common.{ℕ, ◌+◌, ◌-◌, ◌≤◌, ◌≡◌, refl, sym, ap, ◌∙◌, subst, arith, List, [], ◌∷◌, length, length-append, length-drop, length-take-le, take, drop, Option, Result, Ok, Err}
use Rattle.std.specs.Prelude.{sum_by}
use Rattle.std.specs.Result.{result_and}
use Rattle.std.proofs.lemmas.Grind.{common_steps}
use Rattle.std.proofs.lemmas.List.{drop_all}
use Rattle.std.proofs.lemmas.List.Sums.{sum_by-cons}
use Rattle.common.specs.declared.Refusal.{Refusal}
use Rattle.iter.specs.Step.{scan_of}
use Rattle.iter.specs.Reading.{Rec, Reading, ends, refuses, rec_at, read_of}
use Rattle.iter.specs.declared.Scan.{Scan}
use Rattle.iter.specs.declared.Next.{Next}
use Rattle.iter.specs.declared.Next.TheVariants as N
use Rattle.iter.proofs.Reading.{small, step_fits, again, read_by}
use Rattle.iter.proofs.Rows.{Wholes, wholes, read_left}
use Rattle.check_nesting.specs.declared.act.Open.{Open}
use Rattle.check_nesting.specs.declared.Counts.{Counts}
use Rattle.check_nesting.specs.Check.{Verdict, size, counts_of, check_of}
use Rattle.check_nesting.specs.Nesting.{Nests, passes, opens, closes, NestsIn}
use Rattle.check_nesting.proofs.Nesting.{good_nests, counts_are}
use Rattle.squeezing.specs.Squeeze.{landings, lands_from, first_in, first_of, row, nexts_of, squeezed_from, squeezed, squeezable}
use Rattle.squeezing.specs.Landing.{landing_at}
use Rattle.squeezing.specs.declared.plan.Front.{Front}
use Rattle.squeezing.specs.declared.plan.Planned.{Planned}
use Rattle.squeezing.specs.Preview.{dropped_by, dropped}
use Rattle.squeezing.specs.Plan.{front_of, squeezed_length, planned, plan_of}
use Rattle.squeezing.proofs.Moved.{moved_length}
use Rattle.squeezing.proofs.Squeezable.{refused}

-- a record, read from its own index
abbrev bare : Rec → Rec
bare r = record r { fillers = 0; filler_bytes = 0 }

-- The readings from a start, and from the first record, or from the end of the stream where there is none.
data First (s : List ℕ) (start first : ℕ) : Type 0 where
  no_record : (read_of s start).recs ≡ [] → (read_of s first).recs ≡ [] → first ≡ length s → First s start first
  a_record : (r : Rec) (rs : List Rec) → (read_of s start).recs ≡ r ∷ rs → (read_of s first).recs ≡ bare r ∷ rs → first ≡ r.index → first ≤ length s → First s start first

recs_of : Reading → List Rec
recs_of r = r.recs

first_read : (s : List ℕ) (start : ℕ) → (read_of s start).last.ending ≡ ends → First s start (first_of s start)
unfolding first_of recs_of
first_read s start ending = by (scan_of s start).step refl
  where
    by : (n : Result Next Refusal) → (scan_of s start).step ≡ n → First s start (first_of s start)
    by (Ok (N.Record it)) e =
        let here = ap recs_of (read_by s start (Ok (N.Record it)) e) in
        let again_is = again s start it e in
        let own : (read_of s it.index).recs ≡ bare (rec_at s (scan_of s start) it) ∷ (read_of s it.next).recs =
        ap recs_of (read_by s it.index (Ok (N.Record it)) (ap (λ (c : Scan). c.step) again_is)) ∙ ap (λ c. rec_at s c it ∷ (read_of s it.next).recs) again_is in
        let first_is : first_of s start ≡ it.index = ap (first_in s) here in
        a_record (rec_at s (scan_of s start) it) (read_of s it.next).recs here (ap (λ n. (read_of s n).recs) first_is ∙ own) first_is
        (omega (arith, step_fits s start it e))
    by (Ok (N.End p)) e =
        let here = ap recs_of (read_by s start (Ok (N.End p)) e) in
        let first_is : first_of s start ≡ length s = ap (first_in s) here in
        let none = ap recs_of (read_left s [] (length s) tt (drop_all (length s) s (omega arith)) (small s start e)) in
        no_record here (ap (λ n. (read_of s n).recs) first_is ∙ none) first_is
    by (Err x) e = let k : refuses x ≡ ends = ap (λ (r : Reading). r.last.ending) (sym (read_by s start (Err x) e)) ∙ ending in cc

-- the records with their length fields are as long as they say
row_length : (s : List ℕ) (to : ℕ → Option ℕ) (rs : List Rec) → Wholes s rs → length (row s to rs) ≡ sum_by size rs
unfolding row
row_length s to [] w = refl
row_length s to (r ∷ rs) w =
    let head = length-take-le 2 (drop r.index s) (simp length-drop (omega (arith, w.0.fits))) in
    grind (arith, common_steps, moved_length to r.bytes, head, row_length s to rs w.1)

nests_bare : {r : Rec} {rs : List Rec} {st : List Open} → Nests (r ∷ rs) st → Nests (bare r ∷ rs) st
nests_bare (passes {r = r} n d) = passes {r = bare r} n d
nests_bare (opens {r = r} n e z p m d) = opens {r = bare r} n e z p m d
nests_bare (closes {r = r} n e d) = closes {r = bare r} n e d

-- the fillers of a stream are those that the first step passes over, and those that squeezing drops
pub fillers_are : (s : List ℕ) (start : ℕ) → (counts_of (read_of s start)).fillers ≡ (scan_of s start).fillers + dropped s start
unfolding counts_of dropped
fillers_are s start = by (scan_of s start).step refl
  where
    total : Reading → ℕ
    total r = sum_by (λ q. q.fillers) r.recs + r.last.fillers

    by : (n : Result Next Refusal) → (scan_of s start).step ≡ n → total (read_of s start) ≡ (scan_of s start).fillers + dropped_by (read_of s start).recs (read_of s start).last
    by (Ok (N.Record it)) e = rw (read_by s start (Ok (N.Record it)) e) (omega (arith, sum_by-cons (λ q. q.fillers) (rec_at s (scan_of s start) it) (read_of s it.next).recs))
    by (Ok (N.End p)) e = rw (read_by s start (Ok (N.End p)) e) (omega arith)
    by (Err x) e = rw (read_by s start (Err x) e) (omega arith)

-- a refusal of the check is the plan's
pub check_refused : (s : List ℕ) (start : ℕ) {e : Refusal} → Err e ≡ check_of s start → Err e ≡ plan_of s start
unfolding plan_of squeezable
check_refused s start p = rw (sym p) refl

module _ (s : List ℕ) (start : ℕ) {c : Counts} (ok : check_of s start ≡ Ok c) where
  nesting : NestsIn (read_of s start).last.ending (read_of s start).recs []
  nesting = good_nests s start ok

  first : First s start (first_of s start)
  first = first_read s start nesting.at_end

  first_within : first_of s start ≤ length s
  first_within = by first
    where
      by : First s start (first_of s start) → first_of s start ≤ length s
      by (no_record e f is) = omega arith
      by (a_record r rs e f is within) = within

  -- the loops read the records that the squeeze is made of
  same_rows : (P : List Rec → Type 0) → ((r : Rec) (rs : List Rec) → P (r ∷ rs) → P (bare r ∷ rs)) → P (read_of s start).recs → P (read_of s (first_of s start)).recs
  same_rows P bares p = by first
    where
      by : First s start (first_of s start) → P (read_of s (first_of s start)).recs
      by (no_record e f is) = subst P (sym f) (subst P e p)
      by (a_record r rs e f is within) = subst P (sym f) (bares r rs (subst P e p))

  squeezed_is : squeezed_from s (first_of s start) (read_of s (first_of s start)).recs ≡ squeezed s start
  unfolding squeezed squeezed_from row lands_from
  squeezed_is = same_rows (λ rs. squeezed_from s (first_of s start) rs ≡ squeezed s start) (λ r rs e. e) refl

  nexts_are : nexts_of (landing_at s (first_of s start)) (read_of s (first_of s start)).recs ≡ nexts_of (landings s start) (read_of s start).recs
  unfolding nexts_of lands_from
  nexts_are =
      same_rows (λ rs. nexts_of (lands_from (first_of s start) rs) rs ≡ nexts_of (landings s start) (read_of s start).recs) (λ r rs e. e) refl

  first_nests : Nests (read_of s (first_of s start)).recs []
  first_nests = same_rows (λ rs. Nests rs []) (λ r rs n. nests_bare n) nesting.nests

  length_is : first_of s start + sum_by size (read_of s (first_of s start)).recs ≡ length (squeezed_from s (first_of s start) (read_of s (first_of s start)).recs)
  unfolding squeezed_from
  length_is =
      let to = landing_at s (first_of s start) in
      let rs = (read_of s (first_of s start)).recs in
      omega (arith, length-append (take (first_of s start) s) (row s to rs), length-take-le (first_of s start) s first_within, row_length s to rs (wholes s (first_of s start)))

  -- and find each of them where it lands
  lands_are : (i : ℕ) → landing_at s (first_of s start) i ≡ landings s start i
  unfolding lands_from
  lands_are i = same_rows (λ rs. lands_from (first_of s start) rs i ≡ landings s start i) (λ r rs e. e) refl

  -- the plan's length is that of the squeezed stream
  planned_length : squeezed_length s (first_of s start) ≡ result_and (squeezable s start) (Ok (length (squeezed s start)))
  unfolding squeezed_length squeezable
  planned_length = let long = length_is ∙ ap length squeezed_is in (λ i. result_and (nexts_are i) (Ok (long i))) ∙ rw ok refl

  -- the check's fillers are those in front, and those that are dropped
  check_fillers : c.fillers ≡ (scan_of s start).fillers + dropped s start
  check_fillers = ap (λ (n : Counts). n.fillers) (counts_are s start ok) ∙ fillers_are s start

  -- the same, as the calls say it, of the first record that was found
  module _ {at : ℕ} (f : at ≡ first_of s start) where
    pub within : at ≤ length s
    within = rw f first_within

    pub nests : Nests (read_of s at).recs []
    nests = rw f first_nests

    pub written : squeezed_from s at (read_of s at).recs ≡ squeezed s start
    written = ap (λ n. squeezed_from s n (read_of s n).recs) f ∙ squeezed_is

    pub found : (i : ℕ) → lands_from at (read_of s at).recs i ≡ landings s start i
    found i = ap (λ n. landing_at s n i) f ∙ lands_are i

  -- and of the front
  module _ {front : Front} (f : front ≡ front_of s start) where
    front_first : front.first ≡ first_of s start
    unfolding front_of
    front_first = ap (λ (x : Front). x.first) f

    front_fillers : front.fillers ≡ (scan_of s start).fillers
    unfolding front_of
    front_fillers = ap (λ (x : Front). x.fillers) f

    pub front_nests : Nests (read_of s front.first).recs []
    front_nests = nests front_first

    pub front_counted : front.fillers ≤ c.fillers
    front_counted = omega (arith, front_fillers, check_fillers)

    planned_by : (r : Result ℕ Refusal) → r ≡ squeezed_length s front.first → r ≡ result_and (squeezable s start) (Ok (length (squeezed s start)))
    planned_by r p = p ∙ ap (squeezed_length s) front_first ∙ planned_length

    pub plan_refused : {e : Refusal} → Err e ≡ squeezed_length s front.first → Err e ≡ plan_of s start
    unfolding plan_of
    plan_refused {e} p = refused (squeezable s start) _ _ (planned_by (Err e) p)

    pub plan_is : {n : ℕ} → Ok n ≡ squeezed_length s front.first → Ok (record { first = front.first; length = n; dropped = c.fillers - front.fillers }) ≡ plan_of s start
    unfolding plan_of
    plan_is {n} p =
        let left : c.fillers - front.fillers ≡ dropped s start = omega (arith, front_fillers, check_fillers) in
        by left (squeezable s start) (planned_by (Ok n) p)
      where
        by : c.fillers - front.fillers ≡ dropped s start → (v : Verdict) → Ok n ≡ result_and v (Ok (length (squeezed s start))) →
            ◌≡◌ {A = Result Planned Refusal} (Ok (record { first = front.first; length = n; dropped = c.fillers - front.fillers })) (result_and v (Ok (planned s start)))
        by left (Ok u) q = let long : n ≡ length (squeezed s start) = cc in λ i. Ok (record { first = front_first i; length = long i; dropped = left i })
        by left (Err x) q = cc
