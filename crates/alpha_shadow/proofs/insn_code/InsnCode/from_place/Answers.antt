use Rattle.std.proofs.Common.{Some, drop, map, ap, sym, subst, ◌∙◌, arith}
use Rattle.std.specs.List.{drop-map}
use Rattle.std.proofs.lemmas.List.{take_rest, length-drop}
use Rattle.alpha_table.specs.Decoded.{decoded}
use Rattle.alpha_table.specs.Encoded.{encoded}
use Rattle.alpha_shadow.specs.Fetched.{Fetched, HaveWords}
use Rattle.alpha_shadow.proofs.insn_code.InsnCode.from_place.Goals as goal

pub returns-clause-code : goal.returns-clause-code
returns-clause-code c =
    let insns = c.self.inside.insns.now in
    let n = c.args.place in
    ap (map encoded) (take_rest insns n)
    ∙ (sym (drop-map encoded n insns) ∙ ap (λ (f : Fetched). drop n f.code) c.self.view_is)

pub invariant_of-result : goal.invariant_of-result
invariant_of-result c =
    let insns = c.self.inside.insns.now in
    let n = c.args.place in
    let few = c.self.invariant.few in
    let rest : HaveWords (drop n insns) = record {
      known =
          ap (map decoded) (sym (drop-map encoded n insns))
          ∙ (sym (drop-map decoded n (map encoded insns))
          ∙ (ap (drop n) c.self.invariant.known ∙ drop-map Some n insns));
      few = omega (arith, length-drop n insns);
    } in
    subst HaveWords (sym (take_rest insns n)) rest
