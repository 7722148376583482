use Rattle.std.proofs.Common.{sym, ◌∙◌}
use Rattle.std.proofs.lemmas.Bool.{false≢true}
use Rattle.alpha_words.specs.declared.Completion.TheVariants.{Wrap}
use Rattle.alpha_values.proofs.LawLemmas.{completed-exact}
use Rattle.alpha_seq.proofs.machine.Machine.exact_result.Goals as goal

pub returns : goal.returns
returns c =
    let a = c.args in
    c.completed.ensures
    ∙ (completed-exact a.op a.a a.b Wrap (λ h. false≢true (sym c.requires ∙ h))
    ∙ sym (completed-exact a.op a.a a.b a.self.now.completion (λ h. false≢true (sym c.requires ∙ h))))
