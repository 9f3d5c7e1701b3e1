-- `records::flags::LocalVariableFlags::from` meets its contract.
use Rattle.records.proofs.Bits.{masked}
use Rattle.records.proofs.flags.LocalVariableFlagsFromU16.from.Goals as goal

pub returns : goal.returns
returns c =
    let x = c.args.x in
    λ i. record {
      isparam = masked 0 x i;
      addrtaken = masked 1 x i;
      compgenx = masked 2 x i;
      isaggregate = masked 3 x i;
      isaliased = masked 4 x i;
      isalias = masked 5 x i;
      isretvalue = masked 6 x i;
      isoptimizedout = masked 7 x i;
      isenreg_glob = masked 8 x i;
      isenreg_stat = masked 9 x i;
    }
