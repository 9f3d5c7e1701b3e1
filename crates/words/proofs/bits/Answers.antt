-- `words::bits` meets its contract.
use Rattle.std.proofs.Common.{rules, ◌≡◌, ◌∙◌, reverse}
use Rattle.std.specs.List.{fold}
use Rattle.words.proofs.Flags.{onto, folded}
use Rattle.words.proofs.bits.Goals as goal

pub returns : goal.returns
returns c = let e : c.fold.result ≡ fold onto 0 (reverse c.args.flags.now) = search rules in e ∙ folded c.args.flags.now c.requires
