-- Laws of what the exported functions return and write, from what their contracts say.
-- Assumes nothing.
use Rattle.std.proofs.Common.{ℕ, ◌≤◌, ◌≡◌, refl, ◌∙◌, ap, sym, subst, arith, List, [], ◌∷◌, ◌++◌, inl, inr, length, take, drop, Option, None, Some, Result, Ok, Err}
use Rattle.std.specs.Prelude.{IfOk}
use Rattle.std.specs.Result.{result_unwrap_or}
use Rattle.std.proofs.Math.ListN.{get_or}
use Rattle.std.proofs.Math.Seq.{take-append_seam}
use Rattle.std.proofs.lemmas.List.{length-append, length-replicate, length-reverse}
use Rattle.common.specs.Refused.{refusal_number}
use Rattle.common.specs.declared.Refusal.{Refusal}
use Rattle.common.specs.declared.Refusal.TheVariants.{NothingThere}
use Rattle.common.proofs.Numbers.{number_above}
use Rattle.annotations.specs.Annotation.{MovesOn}
use Rattle.annotations.specs.declared.BinaryAnnotation.{BinaryAnnotation}
use Rattle.iter.specs.Reading.{read_of}
use Rattle.chain.specs.Chain.{places}
use Rattle.chain.specs.declared.Found.{Found}
use Rattle.check_nesting.specs.Check.{check_of, AddsUp}
use Rattle.check_nesting.specs.declared.Counts.{Counts}
use Rattle.walk.specs.Walk.{walk_from, walk_of}
use Rattle.walk.proofs.Depth.{walk_depth}
use Rattle.jump.specs.Jump.{jump_of}
use Rattle.climb.specs.Climb.{climb_of}
use Rattle.squeezing.specs.Squeezes.{Squeezes}
use Rattle.squeezing.specs.Foretells.{Foretells}
use Rattle.squeezing.specs.declared.Gain.{Gain}
use Rattle.agreement.specs.Agreement.{enclosing, BothAnswer, BothRefuse, ClimbsThem}
use Rattle.agreement.proofs.Agreement.{condition3}
use Rattle.words.specs.Written.{written}
use Rattle.reply.specs.Reply.{Replied}
use Rattle.reply.specs.Replies.{annotation_reply, check_reply, finding_reply, squeeze_reply, preview_reply, chain_words}
use Rattle.mitrelilac.specs.Exported.{Call, call, SumsUp, CallMovesOn, CallSqueezes, CallForetells, count, chain_told, CallsAnswer, CallsRefuse, ClimbCallFinds, CallsMeetCondition3}

-- the check returns 0 only where it passes
passed : (r : Result Counts Refusal) {returned : ℕ} {before after : List ℕ} → Replied (check_reply r) returned before after →
    returned ≡ 0 → (n : Counts) × (r ≡ Ok n)
passed (Ok n) g z = (n, refl)
passed (Err e) g z = absurd (omega (arith, number_above e, g.number))

pub sums_up : (r : Result Counts Refusal) (s : List ℕ) (start : ℕ) {returned : ℕ} {before after : List ℕ} →
    Replied (check_reply r) returned before after → AddsUp r s start → SumsUp s start (call returned after)
unfolding written
sums_up (Ok n) s start g sums z = rw g.words sums
sums_up (Err e) s start g sums z = absurd (omega (arith, number_above e, g.number))

pub call_moves_on : (r : Result (Option (BinaryAnnotation × ℕ)) Refusal) (s : List ℕ) (at : ℕ) {returned : ℕ} {before after : List ℕ} →
    Replied (annotation_reply r) returned before after → MovesOn s at r → CallMovesOn s at (call returned after)
unfolding written
call_moves_on (Ok (Some x)) s at g moves z one = rw g.words moves
call_moves_on (Ok None) s at g moves z one = absurd (omega (arith, ap (λ (out : List ℕ). get_or out 0 0) g.words))
call_moves_on (Err e) s at g moves z one = absurd (omega (arith, number_above e, g.number))

pub call_squeezes : (r : Result ℕ Refusal) (s : List ℕ) (start : ℕ) (buffer : List ℕ) {returned : ℕ} {before after : List ℕ} →
    Replied (squeeze_reply r) returned before after → IfOk r (λ n. Squeezes s start (take n buffer)) → CallSqueezes s start (call returned after) buffer
unfolding written
call_squeezes (Ok n) s start buffer g squeezes z = rw g.words squeezes
call_squeezes (Err e) s start buffer g squeezes z = absurd (omega (arith, number_above e, g.number))

-- what the words of a preview say of the squeeze
pub call_foretells : (r : Result Gain Refusal) (s : List ℕ) (start i : ℕ) {returned : ℕ} {before after : List ℕ} →
    Replied (preview_reply r) returned before after → Foretells s start i r → CallForetells s start i (call returned after)
unfolding written
call_foretells (Ok gain) s start i g foretold = record { answered = λ z. rw g.words foretold; refused = λ n f room. absurd (n g.number) }
call_foretells (Err e) s start i g foretold =
    record {
      answered = λ z. absurd (omega (arith, number_above e, g.number));
      refused = λ n f room. elim foretold [ inl alike ↦ ap squeeze_reply (alike room) ∙ rw (g.number, g.words) refl | inr nothing ↦ absurd (f (g.number ∙ ap refusal_number nothing.0)) ];
    }

-- a chain of 64 positions at the most has 64 places
full : (chain : List ℕ) → length chain ≤ 64 → length (places chain) ≡ 64
full chain h = simp (length-append, length-replicate) (omega arith)

-- what a finder's answer leaves in the words
record Answered (f : Found) (c : Call) : Type 0 where
  returned_0 : c.returned ≡ 0
  counts : count c ≡ f.count
  lists : chain_told c ≡ chain_words f.chain

answered : (r : Result Found Refusal) (f : Found) {returned : ℕ} {before after : List ℕ} → r ≡ Ok f → length f.chain ≤ 64 →
    Replied (finding_reply r) returned before after → Answered f (call returned after)
unfolding written
answered r f {returned} {before} {after} is few g =
    let reply : Replied (finding_reply (Ok f)) returned before after = subst (λ (r : Result Found Refusal). Replied (finding_reply r) returned before after) is g in
    record {
      returned_0 = reply.number;
      counts = ap (λ (out : List ℕ). get_or out 0 0) reply.words;
      lists =
          ap (λ (out : List ℕ). take 65 (drop 1 out)) reply.words
          ∙ ap (λ (n : ℕ). length f.chain ∷ take n (places f.chain ++ drop (length (f.count ∷ chain_words f.chain)) before)) (sym (full f.chain few))
          ∙ ap (λ (at : List ℕ). length f.chain ∷ at) (take-append_seam (places f.chain) _);
    }

-- a finder that refuses with 14
refused_14 : (r : Result Found Refusal) {returned : ℕ} {before after : List ℕ} → r ≡ Err NothingThere →
    Replied (finding_reply r) returned before after → (returned ≡ 14) × (take 2 after ≡ 0 ∷ 0 ∷ [])
unfolding written
refused_14 r {returned} {before} {after} is g =
    let reply : Replied (finding_reply (Err NothingThere)) returned before after = subst (λ (r : Result Found Refusal). Replied (finding_reply r) returned before after) is g in
    (reply.number, ap (take 2) reply.words)

-- Condition 3, from what the contracts of the four exported functions say
module _ (s : List ℕ) (start i : ℕ) {checked walked jumped climbed : ℕ} {c c' w w' j j' u u' : List ℕ}
    (check : Replied (check_reply (check_of s start)) checked c c')
    (walk : Replied (finding_reply (walk_of s start i)) walked w w')
    (jump : Replied (finding_reply (jump_of s start i)) jumped j j')
    (climb : Replied (finding_reply (climb_of s i)) climbed u u') where
  few : length (enclosing s start i) ≤ 64
  few = omega (arith, length-reverse (result_unwrap_or (walk_from i (read_of s start) []).out []), walk_depth s start i)

  both_answer : BothAnswer (enclosing s start i) (walk_of s start i) (jump_of s start i) →
      CallsAnswer (enclosing s start i) (call walked w') (call jumped j')
  both_answer b =
      let x = answered _ _ b.walking_finds few walk in
      let y = answered _ _ b.jumping_finds few jump in
      record {
        walking_answers = x.returned_0;
        jumping_answers = y.returned_0;
        walking_finds = x.lists;
        jumping_finds = y.lists;
        jumping_reads_no_more = rw (x.counts, y.counts) b.jumping_reads_no_more;
      }

  both_refuse : BothRefuse (walk_of s start i) (jump_of s start i) → CallsRefuse (call walked w') (call jumped j')
  both_refuse b =
      let x = refused_14 _ b.walking_refuses walk in
      let y = refused_14 _ b.jumping_refuses jump in
      record { walking_refuses = x.0; jumping_refuses = y.0; walking_at_0 = x.1; jumping_at_0 = y.1 }

  climbs_them : ClimbsThem (enclosing s start i) (climb_of s i) → ClimbCallFinds (enclosing s start i) (call climbed u')
  climbs_them b =
      let x = answered _ _ b (rw length-reverse few) climb in
      record { climbing_answers = x.returned_0; climbing_finds = x.lists; as_many_links = x.counts }

  pub exported_condition3 : CallsMeetCondition3 s start i checked (call walked w') (call jumped j') (call climbed u')
  exported_condition3 z =
      let p = passed _ check z in
      let a = condition3 s start i p.0 p.1 in
      record {
        if_a_record_begins = λ b. both_answer (a.if_a_record_begins b);
        if_none_begins = λ b. both_refuse (a.if_none_begins b);
        if_an_opener_begins = λ b. climbs_them (a.if_an_opener_begins b);
      }
