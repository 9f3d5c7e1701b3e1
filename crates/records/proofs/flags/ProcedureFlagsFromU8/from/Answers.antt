-- `records::flags::ProcedureFlags::from` meets its contract.
use Rattle.records.proofs.Bits.{masked}
use Rattle.records.proofs.flags.ProcedureFlagsFromU8.from.Goals as goal

pub returns : goal.returns
returns c =
    let x = c.args.x in
    λ i. record {
      nofpo = masked 0 x i;
      int = masked 1 x i;
      far = masked 2 x i;
      never = masked 3 x i;
      notreached = masked 4 x i;
      cust_call = masked 5 x i;
      noinline = masked 6 x i;
      optdbginfo = masked 7 x i;
    }
