use Rattle.std.proofs.Common.{◌≡◌, ◌+◌, ◌-◌, ◌++◌, ◌∙◌, take, drop, sym, ap, arith}
use Rattle.std.proofs.lemmas.List.{take-append-drop, drop-drop}
use Rattle.alpha_quick.specs.TerminatedLine.{rest_from, line_text}
use Rattle.alpha_quick.proofs.terminated_line.TerminatedLine.slice.Goals as goal

pub returns : goal.returns
returns c =
    let s = c.args.self.now in
    let start = c.args.start in
    let n = c.args.end - c.args.start in
    let sum : c.args.start + (c.args.end - c.args.start) ≡ c.args.end = omega (arith, c.requires.order) in
    let front : c.split_at.result.0.now ≡ take (c.args.end - c.args.start) (rest_from c.args.self.now c.args.start) =
    c.split_at.ensures.front ∙ ap (λ t. take n t) c.rest_from.ensures in
    sym (take-append-drop n (rest_from s start))
    ∙ ap (λ t. take n (rest_from s start) ++ t) (drop-drop n start (line_text s) ∙ ap (λ m. drop m (line_text s)) sum)
    ∙ ap (λ t. t ++ rest_from s c.args.end) (sym front)
