-- The jump finder (document 01, "Jump finder"): as walking, except for closers and for openers whose scope ends before i.
use Rattle.std.specs.Prelude.{ℕ, zero, suc, List, [], ◌∷◌, length, Result, Ok, Err}
use Rattle.common.specs.declared.Refusal.{Refusal}
use Rattle.common.specs.declared.Refusal.TheVariants.{NothingThere}
use Rattle.iter.specs.Step.{scan_of}
use Rattle.iter.specs.Reading.{Rec, bytes_at, rec_at}
use Rattle.iter.specs.declared.Scan.{Scan}
use Rattle.iter.specs.declared.Record.{Record}
use Rattle.iter.specs.declared.Next.{Next}
use Rattle.iter.specs.declared.Next.TheVariants as N
use Rattle.chain.specs.Finding.{Search, seen, found_at, refused_with, finding_of}
use Rattle.chain.specs.declared.Found.{Found}
use Rattle.jump.specs.declared.hop.Hop.{Hop}
use Rattle.jump.specs.declared.hop.Hop.TheVariants as H
use Rattle.jump.specs.Hop.{hop_of, land_of}

-- The search from a record, where `on` is the search from a later position, with a stack. The closer jumped to is visited and pops nothing,
-- and reading goes on at the position after it.
abbrev pub on_land : List ℕ → ℕ → List ℕ → Result Record Refusal → (ℕ → List ℕ → Search) → Search
on_land s end st (Ok closer) on = seen (rec_at s (scan_of s end) closer) (on closer.next st)
on_land s end st (Err e) on = refused_with e

abbrev pub on_hop : List ℕ → Rec → ℕ → List ℕ → Result Hop Refusal → (ℕ → List ℕ → Search) → Search
on_hop s r next st (Ok H.Stay) on = seen r (on next st)
on_hop s r next st (Ok H.Push) on = seen r (on next (r.index ∷ st))
on_hop s r next st (Ok (H.Over end)) on = seen r (on_land s end st (land_of s end) on)
on_hop s r next st (Ok H.Found) on = found_at r st
on_hop s r next st (Err e) on = seen r (refused_with e)

-- Step's refusals; End is 14.
abbrev pub on_step : List ℕ → ℕ → Scan → Result Next Refusal → (ℕ → List ℕ → Search) → List ℕ → Search
on_step s i c (Err e) on st = refused_with e
on_step s i c (Ok (N.End p)) on st = refused_with NothingThere
on_step s i c (Ok (N.Record r)) on st = on_hop s (rec_at s c r) r.next st (hop_of i r.index r.next (bytes_at s r) (length st)) on

unfoldable pub jump_body : List ℕ → ℕ → (ℕ → List ℕ → Search) → ℕ → List ℕ → Search
jump_body s i on at st = on_step s i (scan_of s at) (scan_of s at).step on st

-- The search from a position with a stack, where at most k steps and jumps follow. (Where k runs out it refuses; that `jump_from` never does
-- so early is the law `jump_by_lem` of proofs/Jumps.antt.)
unfoldable pub jump_by : ℕ → List ℕ → ℕ → ℕ → List ℕ → Search
unfolding jump_body
jump_by zero s i at st = refused_with NothingThere
jump_by (suc k) s i at st = jump_body s i (λ q st'. jump_by k s i q st') at st

-- Each goes to a later position, so that no more follow than there are bytes.
unfoldable pub jump_from : List ℕ → ℕ → ℕ → List ℕ → Search
unfolding jump_by
jump_from s i at st = jump_by (suc (length s)) s i at st

unfoldable pub jump_of : List ℕ → ℕ → ℕ → Result Found Refusal
unfolding jump_from
jump_of s start i = finding_of (jump_from s i start [])
