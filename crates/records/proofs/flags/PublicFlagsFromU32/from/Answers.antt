-- `records::flags::PublicFlags::from` meets its contract.
use Rattle.records.proofs.Bits.{masked}
use Rattle.records.proofs.flags.PublicFlagsFromU32.from.Goals as goal

pub returns : goal.returns
returns c =
    let x = c.args.x in
    λ i. record {
      code = masked 0 x i;
      function = masked 1 x i;
      managed = masked 2 x i;
      msil = masked 3 x i;
    }
