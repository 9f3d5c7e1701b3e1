-- Behind the two words, k places are stored.
use Rattle.std.proofs.Common.{◌≡◌, length, ◌∷◌, take}
use Rattle.chain.specs.Chain.{places}
use Rattle.words.specs.Written.{written}
use Rattle.reply.proofs.put_found.Given as goal

abbrev pub invariant-loop-k : goal.invariant-loop-k
invariant-loop-k l = l.out ≡ written (l.fn.f.count ∷ length l.fn.f.chain ∷ take l.k (places l.fn.f.chain)) l.fn.out
