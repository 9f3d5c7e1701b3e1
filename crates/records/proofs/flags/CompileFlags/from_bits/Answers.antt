-- `records::flags::CompileFlags::from_bits` meets its contract.
use mathlib.Core.Bool.{◌&&◌}
use Rattle.records.proofs.Bits.{masked}
use Rattle.records.proofs.flags.CompileFlags.from_bits.Goals as goal

pub returns : goal.returns
returns c =
    let x = c.args.x in
    λ i. record {
      edit_and_continue = masked 0 x i;
      no_debug_info = masked 1 x i;
      link_time_codegen = masked 2 x i;
      no_data_align = masked 3 x i;
      managed = masked 4 x i;
      security_checks = masked 5 x i;
      hot_patch = masked 6 x i;
      cvtcil = masked 7 x i;
      msil_module = masked 8 x i;
      sdl = masked 9 x i && c.args.compile3;
      pgo = masked 10 x i && c.args.compile3;
      exp_module = masked 11 x i && c.args.compile3;
    }
