use Rattle.std.proofs.Common.{◌≡◌, ◌<◌, ◌+◌, ◌-◌, ◌∙◌, length, take, drop, refl, sym, ap, arith}
use Rattle.std.proofs.lemmas.Grind.{common_steps}
use Rattle.std.specs.Str.Lines.{strip_carriage_return}
use Rattle.alpha_asm.proofs.FirstLine.{IsFirst-line_feed, IsFirst-no_line_feed, lines-IsFirst}
use Rattle.alpha_asm.proofs.FirstLine.{front-strip_carriage_return}
use Rattle.alpha_asm.proofs.lines.Line.first.Goals as goal

pub returns-in-Some-clause-first : goal.returns-in-Some-clause-first
returns-in-Some-clause-first c =
    IsFirst-line_feed c.args.source.now c.in-Some.n _ c.in-Some.ensures
    (let e : c.without_return.result.now ≡ strip_carriage_return (take c.in-Some.n c.args.source.now) =
    grind (arith, common_steps) in
    e)
    (let e : take (c.in-Some.n + 1) c.args.source.now ≡ take (c.in-Some.n + 1) c.args.source.now = refl in e)
    refl
    (let e : take (length c.args.source.now - (c.in-Some.n + 1)) (drop (c.in-Some.n + 1) c.args.source.now)
    ≡ drop (c.in-Some.n + 1) c.args.source.now =
    grind (arith, common_steps) in
    e)

pub returns-in-None-clause-first : goal.returns-in-None-clause-first
returns-in-None-clause-first c =
    IsFirst-no_line_feed c.args.source.now _ c.requires c.in-None.ensures refl refl refl refl

pub returns-in-Some-clause-lines : goal.returns-in-Some-clause-lines
returns-in-Some-clause-lines c = lines-IsFirst c.args.source.now _ (returns-in-Some-clause-first c)

pub returns-in-None-clause-lines : goal.returns-in-None-clause-lines
returns-in-None-clause-lines c = lines-IsFirst c.args.source.now _ (returns-in-None-clause-first c)

pub returns-in-Some-clause-front : goal.returns-in-Some-clause-front
returns-in-Some-clause-front c =
    let s = c.args.source.now in
    let e : c.without_return.result.now ≡ strip_carriage_return (take c.in-Some.n c.args.source.now) =
    grind (arith, common_steps) in
    let inside : c.in-Some.n < length c.args.source.now = c.in-Some.ensures.0.high in
    e ∙ front-strip_carriage_return c.in-Some.n s (omega (arith, inside)) ∙ ap (λ t. take (length t) s) (sym e)
