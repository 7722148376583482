use Rattle.std.proofs.Common.{◌∙◌, arith}
use Rattle.alpha_asm.specs.Program.{program_of}
use Rattle.alpha_fix.proofs.FixAnswers.{ok_with, err_with, is_fixed_source, refused_far}
use Rattle.alpha_fix.proofs.BarrierMarks.{rise-less, cuts_rise}
use Rattle.alpha_fix.proofs.SourcePrograms.{assembled-first_refused, HasImage-word_count, assembled-code_base}
use Rattle.alpha_fix.proofs.SourcePrograms.{fixed_source-size_bound}
use Rattle.alpha_fix.proofs.inserter.fix_at.Goals as goal

pub with_barriers-requires-clause-base : goal.with_barriers-requires-clause-base
with_barriers-requires-clause-base c =
    c.requires.base
    ∙ assembled-code_base c.args.source.now (program_of c.args.image.now) c.requires.cuts.has_image.assembles

pub with_barriers-requires-clause-words : goal.with_barriers-requires-clause-words
with_barriers-requires-clause-words c =
    c.requires.words ∙ HasImage-word_count c.args.source.now c.args.image.now c.requires.cuts.has_image

pub with_barriers-requires-clause-rise : goal.with_barriers-requires-clause-rise
with_barriers-requires-clause-rise c =
    rise-less 1 0 c.args.cuts.now (omega arith)
    (cuts_rise c.args.image.now.words 0 c.args.cuts.now c.requires.cuts.are_cuts)

pub with_barriers-requires-clause-taken : goal.with_barriers-requires-clause-taken
with_barriers-requires-clause-taken c =
    assembled-first_refused c.args.source.now (program_of c.args.image.now) c.requires.cuts.has_image.assembles

pub require_image-requires-clause-size : goal.require_image-requires-clause-size
require_image-requires-clause-size c =
    fixed_source-size_bound c.args.source.now c.args.cuts.now c.in_ok-made.made.text.items c.args.image.now
    c.requires.cuts.has_image
    c.in_ok-made.ensures.ok c.requires.size

pub returns-clause-ok : goal.returns-clause-ok
returns-clause-ok c =
    ok_with c.require_image.result c.require_image.ensures.ok c.require_image.ensures.image
    (λ same e i. is_fixed_source c.args.source.now c.args.cuts.now c.in_ok-made.made.text.items c.args.image.now
    c.requires.cuts c.requires.some
    c.in_ok-made.ensures.free c.in_ok-made.ensures.ok same.items e i)

pub returns-clause-refused : goal.returns-clause-refused
returns-clause-refused c =
    err_with c.require_image.result c.require_image.ensures.refused
    (λ fault far. refused_far c.args.source.now c.args.cuts.now c.in_ok-made.made.text.items c.args.image.now
    c.requires.cuts c.requires.some
    c.in_ok-made.ensures.free c.in_ok-made.ensures.ok fault far)
