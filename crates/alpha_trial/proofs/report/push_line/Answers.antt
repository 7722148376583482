use Rattle.std.proofs.Common.{◌++◌, ℕ, List, [], ◌∷◌, codes, decimal, length, count_by, ap, ◌∙◌, append_assoc}
use Rattle.hex.specs.Hex.{encode_lower}
use Rattle.alpha_trial.specs.Report.{is_trigger, line}
use Rattle.alpha_trial.proofs.report.push_line.Goals as goal

pub returns : goal.returns
unfolding line
returns c =
    let code = codes " words " ++ decimal (length c.args.image.now.words) ++ codes " triggers "
    ++ decimal (count_by is_trigger c.args.image.now.words) in
    let counts =
    codes " overflows " ++ decimal c.args.counts.overflows ++ codes " steps " ++ decimal c.args.counts.steps in
    let result = codes " result " ++ encode_lower c.args.output.now in
    let drawn = codes " drawn " ++ decimal c.args.counts.drawn in
    c.in_ok-extend_from_slice-2.ensures.items
    ∙ (ap (λ (l : List ℕ). l ++ 10 ∷ []) (c.in_ok-push_count.ensures
    ∙ ap (λ (l : List ℕ). l ++ drawn) (c.in_ok-push_result.ensures
    ∙ ap (λ (l : List ℕ). l ++ result) (c.in_ok-push_counts.ensures
    ∙ ap (λ (l : List ℕ). l ++ counts) (c.in_ok-push_code.ensures
    ∙ ap (λ (l : List ℕ). l ++ code) c.in_ok-extend_from_slice.ensures.items))))
    ∙ simp append_assoc)
