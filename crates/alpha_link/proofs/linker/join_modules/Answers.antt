use Rattle.std.proofs.Common.{◌≡◌, ℕ, List, Option, None, Some, Ok, ap, sym, subst, ◌∙◌}
use Rattle.std.proofs.Math.Path.{fun_ext}
use Rattle.std.specs.Option.{option_map}
use Rattle.alpha_link.specs.declared.fault.LinkFault.TheVariants as faults
use Rattle.alpha_link.specs.Linked.{Located, addresses_of, out_of_range_in, addresses_by}
use Rattle.alpha_link.specs.Names.{found_in}
use Rattle.alpha_link.specs.Output.{JoinsOne}
use Rattle.alpha_link.proofs.LoopLists.{first-drop_some}
use Rattle.alpha_link.proofs.JoinedModules.{Joined-next, out_of_range_as}
use Rattle.alpha_link.proofs.OwnAddresses.{knows_item}
use Rattle.alpha_link.proofs.linker.join_modules.Goals as goal

pub returns-in-Some-clause-refused : goal.returns-in-Some-clause-refused
returns-in-Some-clause-refused c = λ other.
    let all = c.args.places.now in
    let l = c.located-item.result in
    let number = ap (λ (x : Located). x.number) c.located.view_is in
    let stops = out_of_range_as (found_in c.args.names.now) all l c.in_ok-number.field-0
    (fun_ext c.requires.names) c.in_ok-number.ensures.out_of_range in
    let here = stops ∙ ap (option_map (λ (n : ℕ). (l.number, n))) c.in-Some.is in
    ap (option_map (λ (p : ℕ × ℕ). faults.Reach p.0 p.1))
    (first-drop_some (λ x. out_of_range_in (addresses_of all x) x) all c.loop-located.located-index l
    (l.number, c.in-Some.number) _ c.loop-located-test.true c.located-item.is here c.loop-located.invariant.joined.met)
    ∙ ap (λ (k : ℕ). Some (faults.Reach k c.in-Some.number)) (sym number)

pub loop-located-preserved : goal.loop-located-preserved
loop-located-preserved c =
    let all = c.args.places.now in
    let l = c.located-item.result in
    let find = found_in c.args.names.now in
    let goes =
    out_of_range_as find all l c.in_ok-number.field-0 (fun_ext c.requires.names) c.in_ok-number.ensures.out_of_range in
    let met = goes ∙ ap (option_map (λ (n : ℕ). (l.number, n))) c.in_default.is in
    let done : c.join.result ≡ Ok None = cc in
    let one = subst (λ (f : List ℕ → Option ℕ). JoinsOne (addresses_by f l) l c.loop-located.output c.join.new.self)
    (fun_ext c.requires.names) (c.join.ensures.joined done) in
    record {
      joined =
          Joined-next all c.loop-located.located-index l c.loop-located.output c.join.new.self c.loop-located-test.true
          c.located-item.is met one c.loop-located.invariant.joined;
      insns = c.join.ensures.insns done c.loop-located.invariant.insns;
    }

pub join-requires-clause-own : goal.join-requires-clause-own
join-requires-clause-own c =
    knows_item (found_in c.args.names.now) c.args.places.now c.loop-located.located-index c.located-item.result
    c.requires.own c.loop-located-test.true c.located-item.is
