-- Laws of the check: what a turn of the loop does to the verdict that is left and to the counts.
-- Assumes nothing.
use Rattle.std.proofs.Common.{ℕ, ◌+◌, ◌-◌, ◌≤◌, ◌<◌, ◌≡◌, refl, sym, ap, ◌∙◌, subst, max, arith, List, [], ◌∷◌, ◌++◌, length, length-append, take, drop, reverse, Result, Ok, Err}
use Rattle.std.proofs.lemmas.Grind.{common_steps}
use Rattle.std.proofs.lemmas.List.{reverse-append, reverse-reverse, length-reverse}
use mathlib.Core.List.{tail, reverse-cons}
use Rattle.common.specs.declared.Refusal.{Refusal}
use Rattle.constants.specs.Raw.{raw_kind}
use Rattle.iter.specs.Step.{scan_of}
use Rattle.iter.specs.Reading.{bytes_at, Rec, ends, Reading, rec_at, more, on_next, read_of}
use Rattle.iter.specs.declared.Scan.{Scan}
use Rattle.iter.specs.declared.Next.{Next}
use Rattle.iter.specs.declared.Record.{Record}
use Rattle.iter.specs.declared.Next.TheVariants as N
use Rattle.iter.proofs.Reading.{Stepped, step_fits, read_by, fillers_of, fillers_to}
use Rattle.iter.proofs.Records.{bytes-length, kind_lent}
use Rattle.check_nesting.specs.declared.act.Open.{Open}
use Rattle.check_nesting.specs.declared.act.Act.{Act}
use Rattle.check_nesting.specs.declared.act.Act.TheVariants as A
use Rattle.check_nesting.specs.declared.Counts.{Counts}
use Rattle.check_nesting.specs.Act.{act_of, rec_of}
use Rattle.check_nesting.specs.Check.{Verdict, on_act, on_end, verdict_on, verdict_from, counts_of, answer_by, check_of}
use Rattle.check_nesting.proofs.Acts.{act_bare, stay_role, push_role, push_room as act_push_room, pop_role, pop_some}
use Rattle.check_nesting.proofs.Running.{total, passed, counted, none, total_first, total_last, total_stay, total_pop, total_push}

-- The loop's invariant: the verdict and the counts from the start are those from here, with these openers open, the innermost last.
pub record Checking (s : List ℕ) (start : ℕ) (stack : List Open) (n : Counts) (at : ℕ) : Type 0 where
  pub verdict : verdict_from (read_of s at) (reverse stack) ≡ verdict_from (read_of s start) []
  pub counts : total n (length stack) (read_of s at) ≡ counts_of (read_of s start)
  pub deep : length stack ≤ n.deepest
  pub records : n.records + (length s - at) ≤ length s
  pub bytes : n.bytes + n.filler_bytes + (length s - at) ≤ length s
  pub fillers : n.fillers ≤ n.filler_bytes
  pub openers : n.openers ≤ n.records

pub checking_first : (s : List ℕ) (start : ℕ) {stack : List Open} {n : Counts} → stack ≡ [] → n ≡ none → Checking s start stack n start
checking_first s start e d =
    rw (e, d)
    (record { verdict = refl; counts = total_first (read_of s start); deep = omega arith; records = omega arith; bytes = omega arith; fillers = omega arith; openers = omega arith })

-- a turn of the loop: the step c that it makes, and the record that this yields
pub record Turn (s : List ℕ) (start : ℕ) (stack : List Open) (n : Counts) (at : ℕ) (c : Scan) : Type 0 where
  pub inv : Checking s start stack n at
  pub scan : c ≡ scan_of s at
  pub less : c.filler_bytes ≤ length s - at
  pub few : c.fillers ≤ c.filler_bytes

pub record Yields (s : List ℕ) (start : ℕ) (stack : List Open) (n : Counts) (at : ℕ) (c : Scan) (it : Record) : Type 0 where
  pub turn : Turn s start stack n at c
  pub yields : c.step ≡ Ok (N.Record it)
  pub stepped : Stepped s at it
  pub exact : at + c.filler_bytes ≡ it.index
  pub size : length (bytes_at s it) ≡ it.len
  pub lent : take (it.next - it.start) (drop it.start s) ≡ bytes_at s it
  pub kind_is : it.kind ≡ raw_kind (take (it.next - it.start) (drop it.start s))

-- both, by what the step ensures
pub turned : {s : List ℕ} {start : ℕ} {stack : List Open} {n : Counts} {at : ℕ} {c : Scan} → Checking s start stack n at → c ≡ scan_of s at → Turn s start stack n at c
turned {s = s} {at = at} {c = c} inv e =
    let k = fillers_of s at in
    record { inv = inv; scan = e; less = grind (arith, common_steps, k); few = grind (arith, common_steps, k) }

pub yielded : {s : List ℕ} {start : ℕ} {stack : List Open} {n : Counts} {at : ℕ} {c : Scan} {m : Next} {it : Record} →
    Checking s start stack n at → c ≡ scan_of s at → c.step ≡ Ok m → m ≡ N.Record it → Yields s start stack n at c it
yielded {s = s} {at = at} {c = c} {it = it} inv e f d =
    let step : (scan_of s at).step ≡ Ok (N.Record it) = ap (λ (x : Scan). x.step) (sym e) ∙ f ∙ ap Ok d in
    let y = step_fits s at it step in
    let long : it.next - it.start ≡ it.len = omega arith in
    record {
      turn = turned inv e;
      yields = f ∙ ap Ok d;
      stepped = y;
      exact = rw e (fillers_to s at it step);
      size = bytes-length s at it step;
      lent = rw long;
      kind_is = kind_lent s at it step;
    }

-- what the code needs of a record that is yielded: where it lies, that it moves on, and that its counts fit
module _
    {s : List ℕ} {start : ℕ} {stack : List Open} {n : Counts} {at : ℕ} {c : Scan} {m : Next} {it : Record}
    (inv : Checking s start stack n at) (e : c ≡ scan_of s at) (f : c.step ≡ Ok m) (d : m ≡ N.Record it)
  where
    pub start_le_next : it.start ≤ it.next
    start_le_next = omega (arith, yielded inv e f d)

    pub next_within : it.next ≤ length s
    next_within = omega (arith, yielded inv e f d)

    pub less_left : length s - it.next < length s - at
    less_left = omega (arith, yielded inv e f d)

    pub lent_kind : it.kind ≡ raw_kind (take (it.next - it.start) (drop it.start s))
    lent_kind = (yielded inv e f d).kind_is

    pub records_fit : n.records + 1 ≤ length s
    records_fit = omega (arith, inv, yielded inv e f d)

    pub bytes_fit : n.bytes + (2 + it.len) ≤ length s
    bytes_fit = omega (arith, inv, yielded inv e f d)

module _ {s : List ℕ} {start : ℕ} {stack : List Open} {n : Counts} {at : ℕ} {c : Scan} (t : Turn s start stack n at c) where
  -- the reading from here, by what the step says
  reading : (m : Result Next Refusal) → c.step ≡ m → read_of s at ≡ on_next s c m (read_of s)
  reading m e = subst (λ (x : Scan). x.step ≡ m → read_of s at ≡ on_next s x m (read_of s)) (sym t.scan) (read_by s at m) e

  left_on : {x : Reading} → read_of s at ≡ x → verdict_from x (reverse stack) ≡ verdict_from (read_of s start) []
  left_on e = ap (λ (y : Reading). verdict_from y (reverse stack)) (sym e) ∙ t.inv.verdict

  pub at_refused : {x : Refusal} → c.step ≡ Err x → Err x ≡ check_of s start
  unfolding check_of verdict_from verdict_on
  at_refused {x} e = ap (λ (v : Verdict). answer_by v (counts_of (read_of s start))) (left_on (reading (Err x) e))

  pub at_last : {m : Next} {p : ℕ} → c.step ≡ Ok m → m ≡ N.End p → answer_by (on_end ends (reverse stack)) (passed n c.fillers c.filler_bytes) ≡ check_of s start
  unfolding check_of verdict_from verdict_on
  at_last {m} {p} f d =
      let here = reading (Ok (N.End p)) (f ∙ ap Ok d) in
      let k : passed n c.fillers c.filler_bytes ≡ counts_of (read_of s start) =
      sym (total_last n (length stack) c.fillers c.filler_bytes ends t.inv.deep) ∙ ap (total n (length stack)) (sym here) ∙ t.inv.counts in
      λ i. answer_by (left_on here i) (k i)

-- a stack without its last member
pub popped : {A : Type 0} (st : List A) → reverse (take (length st - 1) st) ≡ tail (reverse st)
popped {A} st = subst (λ (l : List A). reverse (take (length l - 1) l) ≡ tail (reverse st)) (reverse-reverse st) (by (reverse st))
  where
    by : (l : List A) → reverse (take (length (reverse l) - 1) (reverse l)) ≡ tail l
    by [] = refl
    by (o ∷ l) = grind (arith, common_steps, reverse-cons o l)

module _ {s : List ℕ} {start : ℕ} {stack : List Open} {n : Counts} {at : ℕ} {c : Scan} {it : Record}
    (y : Yields s start stack n at c it) where
  abbrev r : Rec
  r = rec_at s c it

  -- what is done with the record
  abbrev pub act : Result Act Refusal
  act = act_of r (reverse stack)

  -- the code does it on its own bytes and stack
  pub acted : {st : List Open} {a : Result Act Refusal} → st ≡ stack → a ≡ act_of (rec_of it.index (take (it.next - it.start) (drop it.start s))) (reverse st) → a ≡ act
  acted d e = e ∙ rw (y.lent, d) (act_bare r (reverse stack))

  left : {a : Result Act Refusal} → a ≡ act → on_act (reverse stack) a (verdict_from (read_of s it.next)) ≡ verdict_from (read_of s start) []
  unfolding verdict_from verdict_on
  left e = rw e (left_on y.turn (reading y.turn (Ok (N.Record it)) y.yields))

  counts_on : total n (length stack) (more r (read_of s it.next)) ≡ counts_of (read_of s start)
  counts_on = ap (total n (length stack)) (sym (reading y.turn (Ok (N.Record it)) y.yields)) ∙ y.turn.inv.counts

  pub at_refusing : {x : Refusal} → Err x ≡ act → Err x ≡ check_of s start
  unfolding check_of
  at_refusing e = ap (λ (v : Verdict). answer_by v (counts_of (read_of s start))) (left e)

  -- the counts with this record
  abbrev m : Counts
  m = counted (passed n c.fillers c.filler_bytes) it.len

  module _ {a : Act} (e : Ok a ≡ act) where
    pub go_stay : a ≡ A.Stay → Checking s start stack m it.next
    go_stay f =
        let b : Ok A.Stay ≡ act = ap Ok (sym f) ∙ e in
        record {
          verdict = left b;
          counts = total_stay n (length stack) r (read_of s it.next) y.turn.inv.deep y.size (stay_role r (reverse stack) b) ∙ counts_on;
          deep = y.turn.inv.deep;
          records = omega (arith, y.turn.inv, y.stepped);
          bytes = omega (arith, y.turn.inv, y);
          fillers = omega (arith, y.turn);
          openers = omega (arith, y.turn.inv);
        }

    module _ {o : Open} (f : a ≡ A.Push o) where
      pushes : Ok (A.Push o) ≡ act
      pushes = ap Ok (sym f) ∙ e

      pub push_room : length stack < 64
      push_room = omega (arith, act_push_room r (reverse stack) pushes, length-reverse stack)

      pub go_push : {st : List Open} {deepest : ℕ} → st ≡ stack ++ o ∷ [] → deepest ≡ max n.deepest (length st) →
          Checking s start st (record m { openers = n.openers + 1; deepest = deepest }) it.next
      go_push {st} {deepest} g d =
          let long : length st ≡ length stack + 1 = rw g (length-append stack (o ∷ [])) in
          record {
            verdict = rw (g, reverse-append stack (o ∷ [])) (left pushes);
            counts = rw (d, long) (total_push n (length stack) r (read_of s it.next) y.turn.inv.deep y.size (push_role r (reverse stack) pushes)) ∙ counts_on;
            deep = omega arith;
            records = omega (arith, y.turn.inv, y.stepped);
            bytes = omega (arith, y.turn.inv, y);
            fillers = omega (arith, y.turn);
            openers = omega (arith, y.turn.inv);
          }

    pub go_pop : a ≡ A.Pop → {st : List Open} → st ≡ take (length stack - 1) stack → Checking s start st m it.next
    go_pop f {st} g =
        let b : Ok A.Pop ≡ act = ap Ok (sym f) ∙ e in
        let some : 0 < length stack = omega (arith, pop_some r (reverse stack) b, length-reverse stack) in
        let long : length st ≡ length stack - 1 = grind (arith, common_steps) in
        record {
          verdict = rw (g, popped stack) (left b);
          counts = rw long (total_pop n (length stack) r (read_of s it.next) y.turn.inv.deep y.size (pop_role r (reverse stack) b)) ∙ counts_on;
          deep = omega (arith, y.turn.inv.deep);
          records = omega (arith, y.turn.inv, y.stepped);
          bytes = omega (arith, y.turn.inv, y);
          fillers = omega (arith, y.turn);
          openers = omega (arith, y.turn.inv);
        }
