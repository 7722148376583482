use Rattle.std.proofs.Common.{◌≡◌, length, map, subst}
use Rattle.std.proofs.lemmas.List.{length-map}
use Rattle.alpha_table.specs.Encoded.{encoded}
use Rattle.alpha_shadow.specs.Fetched.{Fetched}
use Rattle.alpha_shadow.specs.NoTrigger.{AreNoTriggers, IsNextTrigger}
use Rattle.alpha_shadow.specs.declared.fetch.NextTrigger.{NextTrigger}
use Rattle.alpha_shadow.proofs.NextTriggers.{AreNoTriggers-map_encoded, IsNextTrigger-map_encoded}
use Rattle.alpha_shadow.proofs.insn_code.InsnCodeFetch.next_trigger.Goals as goal

pub returns-then-place-self-clause-none : goal.returns-then-place-self-clause-none
returns-then-place-self-clause-none c =
    let insns = c.self.inside.insns.now in
    let end : c.first_trigger-place.result ≡ length (map encoded insns) =
    let e = c.if-place-self.true in let l = length-map insns encoded in cc in
    subst (λ (f : Fetched). AreNoTriggers f.code c.args.from (length f.code)) c.self.view_is
    (subst (AreNoTriggers (map encoded insns) c.args.from) end
    (AreNoTriggers-map_encoded insns c.args.from c.first_trigger-place.result c.self.invariant
    c.first_trigger-place.ensures.within
    c.first_trigger-place.ensures.quiet))

pub returns-clause-found : goal.returns-clause-found
returns-clause-found c =
    let insns = c.self.inside.insns.now in
    let next : NextTrigger = record { place = c.first_trigger-place.result; insn = c.insn_in.result } in
    subst (λ (f : Fetched). IsNextTrigger f.code c.args.from next) c.self.view_is
    (IsNextTrigger-map_encoded insns c.args.from next c.self.invariant c.first_trigger-place.ensures.above
    c.first_trigger-place.ensures.within c.first_trigger-place.ensures.quiet c.insn_in.ensures
    (c.first_trigger-place.ensures.trigger c.insn_in.result c.insn_in.ensures))
