use Rattle.std.proofs.Common.{◌≡◌, ℕ, List, Some, map, slice_get, ap, subst}
use Rattle.std.specs.Option.{option_and_then}
use Rattle.alpha_table.specs.Decoded.{decoded}
use Rattle.alpha_table.specs.Encoded.{encoded}
use Rattle.alpha_table.proofs.CodeWords.{decoded_there}
use Rattle.alpha_shadow.specs.Fetched.{Fetched}
use Rattle.alpha_shadow.proofs.insn_code.InsnCodeFetch.insn.Goals as goal

pub returns-clause-found : goal.returns-clause-found
returns-clause-found c =
    let insns = c.self.inside.insns.now in
    subst (λ (code : List ℕ). option_and_then decoded (slice_get code c.args.place) ≡ Some c.insn_in.result)
    (ap (λ (f : Fetched). f.code) c.self.view_is)
    (decoded_there (map encoded insns) insns c.args.place c.insn_in.result c.self.invariant.known c.insn_in.ensures)
