-- `records::flags::ExportSymbolFlags::from` meets its contract.
use Rattle.records.proofs.Bits.{masked}
use Rattle.records.proofs.flags.ExportSymbolFlagsFromU16.from.Goals as goal

pub returns : goal.returns
returns c =
    let x = c.args.x in
    λ i. record {
      constant = masked 0 x i;
      «data» = masked 1 x i;
      «private» = masked 2 x i;
      no_name = masked 3 x i;
      ordinal = masked 4 x i;
      forwarder = masked 5 x i;
    }
