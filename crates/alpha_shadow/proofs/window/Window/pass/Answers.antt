use Rattle.std.proofs.Common.{◌≡◌, ◌≢◌, [], ◌∷◌, ◌++◌, ap, sym, subst, ◌∙◌}
use Rattle.std.specs.Option.{unwrap_or}
use Rattle.alpha_shadow.specs.declared.window.Window.{Window}
use Rattle.alpha_table.specs.Columns.{access_of}
use Rattle.alpha_shadow.specs.Columns.{destination_of}
use Rattle.alpha_shadow.specs.Code.{Sets, Uses}
use Rattle.alpha_shadow.specs.Window.{Notes, trigger_at}
use Rattle.alpha_shadow.proofs.WindowSteps.{Summarizes-next, next-EndsShadow, next-Trigger, next-Load}
use Rattle.alpha_shadow.proofs.WindowSteps.{next-StaysInShadow}
use Rattle.alpha_shadow.proofs.window.Window.pass.Goals as goal

-- a word that ends every shadow
pub returns-in-Barrier : goal.returns-in-Barrier
returns-in-Barrier c = λ code s h shadow.
    let old = c.args.self.now in
    let word = c.args.columns.now in
    let after = c.close.new.self in
    let next = next-EndsShadow word.kind (access_of word.insn)
    (trigger_at code c.args.place) old.triggers.items old.loads.items c.in-Barrier.is in
    let set = subst (λ l. Notes (Sets code c.args.place) c.args.place old.set.ends l.ends) (sym c.close.ensures.set)
    (c.note.ensures.set code h) in
    let used = subst (λ l. Notes (Uses code c.args.place) c.args.place old.used.ends l.ends) (sym c.close.ensures.used)
    (c.note.ensures.used code h) in
    Summarizes-next code c.args.place old after word s h (c.close.ensures.triggers ∙ sym next.0)
    (c.close.ensures.loads ∙ sym next.1) set used

pub returns-in-Trigger : goal.returns-in-Trigger
returns-in-Trigger c = λ code s h shadow.
    let old = c.args.self.now in
    let word = c.args.columns.now in
    let w : Window = record {
      triggers = c.push.new.self;
      loads = c.note.new.self.loads;
      set = c.note.new.self.set;
      used = c.note.new.self.used;
    } in
    let next = next-Trigger word.kind (access_of word.insn)
    (trigger_at code c.args.place) old.triggers.items old.loads.items c.in-Trigger.is in
    let same : c.destination.result ≡ destination_of code c.args.place =
    c.destination.ensures ∙ ap (λ o. unwrap_or o 31) (sym h.sets) in
    let t = ap (λ ts. ts.items ++ record { place = c.args.place; destination = c.destination.result } ∷ [])
    c.note.ensures.triggers
    ∙ ap (λ d. old.triggers.items ++ record { place = c.args.place; destination = d } ∷ []) same in
    Summarizes-next code c.args.place old w word s h (c.push.ensures ∙ (t ∙ sym next.0))
    (ap (λ ls. ls.items) c.note.ensures.loads ∙ sym next.1) (c.note.ensures.set code h) (c.note.ensures.used code h)

pub returns-in-Some : goal.returns-in-Some
returns-in-Some c = λ code s h shadow.
    let old = c.args.self.now in
    let word = c.args.columns.now in
    let w : Window = record {
      triggers = c.note.new.self.triggers;
      loads = c.push-in-Some.new.self;
      set = c.note.new.self.set;
      used = c.note.new.self.used;
    } in
    let some : old.triggers.items ≢ [] = λ e. shadow (e, λ k. let l = c.in-Load.is in cc) in
    let next =
    next-Load word.kind (access_of word.insn) c.in-Some.access (trigger_at code c.args.place) old.triggers.items
    old.loads.items c.in-Load.is (sym c.access.ensures ∙ c.in-Some.is) some in
    let l =
    ap (λ ls. ls.items ++ c.of.result ∷ []) c.note.ensures.loads ∙ ap (λ r. old.loads.items ++ r ∷ []) c.of.ensures in
    Summarizes-next code c.args.place old w word s h (ap (λ ts. ts.items) c.note.ensures.triggers ∙ sym next.0)
    (c.push-in-Some.ensures ∙ (l ∙ sym next.1)) (c.note.ensures.set code h) (c.note.ensures.used code h)

pub returns-in-Plain : goal.returns-in-Plain
returns-in-Plain c = λ code s h shadow.
    let old = c.args.self.now in
    let word = c.args.columns.now in
    let next = next-StaysInShadow word.kind (access_of word.insn)
    (trigger_at code c.args.place) old.triggers.items old.loads.items c.in-Plain.is in
    Summarizes-next code c.args.place old c.note.new.self word s h
    (ap (λ ts. ts.items) c.note.ensures.triggers ∙ sym next.0)
    (ap (λ ls. ls.items) c.note.ensures.loads ∙ sym next.1)
    (c.note.ensures.set code h) (c.note.ensures.used code h)
