use Rattle.std.proofs.Common.{◌≡◌, drop}
use Rattle.std.specs.Prelude.{slice_get}
use Rattle.alpha_link.specs.GlobalSymbols.{global_symbols}
use Rattle.alpha_link.proofs.global_symbols.global_symbol_at.Given as goal

abbrev pub invariant-loop-located : goal.invariant-loop-located
invariant-loop-located l =
    slice_get (global_symbols (drop l.located-index l.places)) l.rest ≡ slice_get (global_symbols l.places) l.fn.number
