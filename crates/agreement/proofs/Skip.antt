-- From inside a scope whose end field is e, reading comes to a closer at e; and the walk to a position past e comes there too.
-- Assumes nothing.
use Rattle.std.proofs.Common.{ℕ, suc, ◌≤◌, ◌<◌, ◌≡◌, refl, sym, subst, ap, ◌∙◌, arith, List, [], ◌∷◌, ◌++◌, length, Ok}
use Rattle.constants.specs.Raw.{nesting_role_of}
use Rattle.constants.specs.declared.Role.TheVariants.{Closes}
use Rattle.iter.specs.Step.{scan_of}
use Rattle.iter.specs.Reading.{bytes_at, Rec, rec_at}
use Rattle.iter.specs.declared.Scan.{Scan}
use Rattle.iter.specs.declared.Record.{Record}
use Rattle.iter.specs.declared.Next.TheVariants as N
use Rattle.iter.proofs.Reading.{step_fits, again}
use Rattle.chain.specs.Finding.{Search, seen}
use Rattle.walk.proofs.Walks.{walk_at}
use Rattle.check_nesting.specs.declared.act.Open.{Open}
use Rattle.check_nesting.specs.Stack.{open_scope}
use Rattle.agreement.proofs.Nest.{indexes, length_indexes, NestsAt, First, done, passes, opens, closes, nests-ind}
use Rattle.agreement.proofs.Turns.{same_out, same_count, walk_plain, walk_open, walk_close}

-- the search w ends as v does, and visits more records
pub record Through (w v : Search) : Type 0 where
  pub outs : w.out ≡ v.out
  pub more : length v.visited < length w.visited

pub through_one : {w v : Search} (r : Rec) → w ≡ seen r v → Through w v
through_one {w} {v} r e =
    let n : length w.visited ≡ suc (length v.visited) = same_count e in
    record { outs = same_out e; more = omega arith }

pub through_more : {w v x : Search} → Through w v → Through v x → Through w x
through_more a b =
    let m = a.more in
    let n = b.more in
    record { outs = a.outs ∙ b.outs; more = omega arith }

pub record Skip (s : List ℕ) (i p : ℕ) (gs : List Open) (e : ℕ) (fs : List Open) : Type 0 where
  pub closing : Record
  pub from : p ≤ e
  pub lands : (scan_of s e).step ≡ Ok (N.Record closing)
  pub here : closing.index ≡ e
  pub closer : nesting_role_of (bytes_at s closing) ≡ Closes
  pub rest : NestsAt s closing.next fs
  pub walked : e < i → Through (walk_at s i p (indexes gs)) (walk_at s i closing.next (indexes fs))

module _ (s : List ℕ) (i : ℕ) (o : Open) (fs : List Open) where
  -- one more record, at index, in front of what is skipped
  more-skip : {p : ℕ} {it : Record} (gs hs : List Open) → (scan_of s p).step ≡ Ok (N.Record it) →
      (it.index < i → walk_at s i p (indexes gs) ≡ seen (rec_at s (scan_of s p) it) (walk_at s i it.next (indexes hs))) →
      Skip s i it.next hs o.end fs → Skip s i p gs o.end fs
  more-skip {p} {it} gs hs h w r =
      let y = step_fits s p it h in
      let f : it.next ≤ o.end = r.from in
      record {
        closing = r.closing;
        from = omega arith;
        lands = r.lands;
        here = r.here;
        closer = r.closer;
        rest = r.rest;
        walked = λ l. through_more (through_one _ (w (omega arith))) (r.walked l);
      }

  abbrev Skips : ℕ → List Open → Type 0
  Skips p gs = (pre : List Open) → gs ≡ pre ++ o ∷ fs → Skip s i p gs o.end fs

  skip_on : (p : ℕ) (gs : List Open) → First s p gs → ((q : ℕ) (hs : List Open) → p < q → q ≤ length s → NestsAt s q hs → Skips q hs) → Skips p gs
  skip_on p gs (done h) on [] q = cc
  skip_on p gs (done h) on (g ∷ pre) q = cc
  skip_on p gs (passes {it = it} h r d) on pre q =
      let y = step_fits s p it h in
      more-skip gs gs h (λ l. walk_plain s i p (indexes gs) it h l r) (on it.next gs (omega arith) (omega arith) d pre q)
  skip_on p gs (opens {it = it} {l = k} h r g z u m d) on pre q =
      let y = step_fits s p it h in
      more-skip gs (open_scope it.index k ∷ gs) h
      (λ a. walk_open s i p (indexes gs) it h a r (let f : length (indexes gs) ≡ length gs = length_indexes gs in omega arith))
      (on it.next (open_scope it.index k ∷ gs) (omega arith) (omega arith) d (open_scope it.index k ∷ pre) (ap (λ (l : List Open). open_scope it.index k ∷ l) q))
  skip_on p _ (closes {it = it} {o = x} {st = gs} h r u d) on [] q =
      let a : x ≡ o = cc in
      let c : gs ≡ fs = cc in
      let v : it.index ≡ o.end = sym u ∙ ap (λ (y : Open). y.end) a in
      let y = step_fits s p it h in
      record {
        closing = it;
        from = omega arith;
        lands = subst (λ (q : ℕ). (scan_of s q).step ≡ Ok (N.Record it)) v (ap (λ (k : Scan). k.step) (again s p it h));
        here = v;
        closer = r;
        rest = rw c at d;
        walked = λ l.
            through_one (rec_at s (scan_of s p) it)
            (walk_close s i p x.index (indexes gs) it h (omega arith) r
            ∙ ap (λ (st : List Open). seen (rec_at s (scan_of s p) it) (walk_at s i it.next (indexes st))) c);
      }
  skip_on p _ (closes {it = it} {o = x} {st = gs} h r u d) on (g ∷ pre) q =
      let y = step_fits s p it h in
      more-skip _ gs h (λ l. walk_close s i p x.index (indexes gs) it h l r) (on it.next gs (omega arith) (omega arith) d pre (cc))

  pub skip : (p : ℕ) → NestsAt s p (o ∷ fs) → Skip s i p (o ∷ fs) o.end fs
  skip p d = nests-ind s Skips skip_on p (o ∷ fs) d [] refl
