-- `records::flags::SeparatedCodeFlags::from` meets its contract.
use Rattle.records.proofs.Bits.{masked}
use Rattle.records.proofs.flags.SeparatedCodeFlagsFromU32.from.Goals as goal

pub returns : goal.returns
returns c =
    let x = c.args.x in
    λ i. record {
      islexicalscope = masked 0 x i;
      returnstoparent = masked 1 x i;
    }
