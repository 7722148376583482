use Rattle.std.proofs.Common.{◌≡◌, List, ℕ, length, None, false, sym, subst, ap, ◌∙◌, rules}
use Rattle.alpha_asm.specs.LineKinds.{kinds_of}
use Rattle.alpha_fix.specs.FixedLines.{items_of}
use Rattle.alpha_fix.proofs.FixedItems.{items_by_lines}
use Rattle.alpha_fix.proofs.FixedText.{TextUnderway, TextUnderway-start, fixed_now, word_on, other_on}
use Rattle.alpha_fix.proofs.FixedText.{TextUnderway-end_whole, word_lines, other_lines, role_insn, role_other}
use Rattle.alpha_fix.proofs.KnownLines.{IsTextKnownSoFar-next, insn_known, code_same, code_start, known_whole}
use Rattle.alpha_fix.proofs.LineRoles.{kinds_from-first}
use Rattle.alpha_fix.proofs.barriers.with_barriers.Goals as goal
use Rattle.alpha_fix.proofs.barriers.with_barriers.Goals.{in-Insn+in_ok-put_line-in-Insn+in_ok-put_known-in-Insn}
use Rattle.alpha_fix.proofs.barriers.with_barriers.Goals.{in-Other+in_ok-put_line-in-Other+in_ok-put_known-in-Other}

pub loop-rest-init : goal.loop-rest-init
loop-rest-init c = record {
  text =
      subst (λ (t : List ℕ).
      TextUnderway c.args.source.now c.args.cuts.now c.args.words c.args.base c.args.source.now t c.args.cuts.now 1 0)
      (sym c.in_ok-text.ensures.items)
      (TextUnderway-start c.args.source.now c.args.cuts.now c.args.words c.args.base c.requires.base c.requires.words
      c.requires.rise c.requires.taken);
  kinds =
      c.kinds-kinds.ensures
      ∙ (ap (λ (t : List ℕ). kinds_of (items_of t)) c.requires.symbols
      ∙ ap kinds_of (items_by_lines c.args.source.now));
  code =
      code_start c.args.source.now c.args.symbols c.code-code.result.now c.requires.symbols c.code-code.ensures;
  known = rw c.in_ok-known.ensures.items (λ more a. a);
}

pub role_here-requires-clause-kind : goal.role_here-requires-clause-kind
role_here-requires-clause-kind c =
    (kinds_from-first c.loop-rest.rest.now c.loop-rest.kinds.now c.first_kind-kind.result.0
    c.first_kind-kind.result.1.now
    c.first-line.result c.first-line.ensures.first c.loop-rest.invariant.kinds c.first_kind-kind.ensures).0

pub returns-in-FixedLine-clause-refused : goal.returns-in-FixedLine-clause-refused
returns-in-FixedLine-clause-refused c =
    fixed_now c.args.source.now c.args.cuts.now c.args.words c.args.base c.loop-rest.rest.now c.loop-rest.text.items
    c.loop-rest.left.now c.loop-rest.number c.loop-rest.place
    c.first-line.result c.args.symbols c.loop-rest.invariant.text c.first-line.ensures.first c.requires.symbols
    c.in-FixedLine.ensures

pub loop-rest-preserved : goal.loop-rest-preserved
loop-rest-preserved c =
    let (one, others) =
    kinds_from-first c.loop-rest.rest.now c.loop-rest.kinds.now c.first_kind-kind.result.0
    c.first_kind-kind.result.1.now
    c.first-line.result c.first-line.ensures.first c.loop-rest.invariant.kinds c.first_kind-kind.ensures in
    let f = c.first-line.ensures.first in
    record {
      kinds = others;
      code =
          elim c.match-role_here.branch [
            | in-Insn+in_ok-put_line-in-Insn+in_ok-put_known-in-Insn w ↦
                rw w.code-is
                (insn_known c.loop-rest.rest.now c.first-line.result c.loop-rest.code.now f c.loop-rest.invariant.code
                w.first_insn-insn.result.1.now w.first_insn-insn.result.0 c.first_kind-kind.result.0 one
                (role_insn _ _ w.in-Insn.ensures).1 w.first_insn-insn.ensures).1
            | in-Other+in_ok-put_line-in-Other+in_ok-put_known-in-Other w ↦
                rw w.code-is
                (code_same c.loop-rest.rest.now c.first-line.result c.loop-rest.code.now f c.loop-rest.invariant.code
                (role_other _ _ w.in-Other.ensures).1)
          ];
      known =
          elim c.match-role_here.branch [
            | in-Insn+in_ok-put_line-in-Insn+in_ok-put_known-in-Insn w ↦
                rw (w.known-is, w.place-is)
                (IsTextKnownSoFar-next c.barrier-bar.result w.first_insn-insn.result.0 f.line c.loop-rest.known.items
                w.put_known.new.known.items _ _ _ w.take_cut-before.result.0 w.ends_cut-behind.result
                c.first-line.result.ended
                c.barrier-bar.ensures
                (insn_known c.loop-rest.rest.now c.first-line.result c.loop-rest.code.now f c.loop-rest.invariant.code
                w.first_insn-insn.result.1.now w.first_insn-insn.result.0 c.first_kind-kind.result.0 one
                (role_insn _ _ w.in-Insn.ensures).1 w.first_insn-insn.ensures).0
                f.is.ended
                (word_lines c.args.source.now c.args.cuts.now c.args.words c.args.base c.loop-rest.rest.now
                c.loop-rest.text.items c.loop-rest.left.now c.loop-rest.number c.loop-rest.place
                c.first-line.result c.args.symbols c.loop-rest.invariant.text f
                c.requires.symbols
                w.take_cut-before.result.0 w.ends_cut-behind.result w.take_cut-before.result.1.now
                w.in-Insn.ensures w.take_cut-before.ensures.cut w.take_cut-before.ensures.later
                w.ends_cut-behind.ensures)
                w.in_ok-put_known-in-Insn.ensures c.loop-rest.invariant.known)
            | in-Other+in_ok-put_line-in-Other+in_ok-put_known-in-Other w ↦
                rw (w.known-is, w.place-is)
                (IsTextKnownSoFar-next c.barrier-bar.result None f.line c.loop-rest.known.items
                w.put_known-in-Other.new.known.items _ _ _ false false c.first-line.result.ended
                c.barrier-bar.ensures tt
                f.is.ended
                (other_lines c.args.source.now c.args.cuts.now c.args.words c.args.base c.loop-rest.rest.now
                c.loop-rest.text.items c.loop-rest.left.now c.loop-rest.number c.loop-rest.place
                c.first-line.result c.args.symbols c.loop-rest.invariant.text f
                c.requires.symbols w.in-Other.ensures)
                w.in_ok-put_known-in-Other.ensures c.loop-rest.invariant.known)
          ];
      text =
          elim c.match-role_here.branch [
            | in-Insn+in_ok-put_line-in-Insn+in_ok-put_known-in-Insn w ↦
                rw (w.text-is, w.place-is, w.left-is)
                (word_on c.args.source.now c.args.cuts.now c.args.words c.args.base c.loop-rest.rest.now
                c.loop-rest.text.items c.loop-rest.left.now c.loop-rest.number c.loop-rest.place
                c.first-line.result c.args.symbols c.loop-rest.invariant.text c.first-line.ensures.first
                c.requires.symbols
                w.take_cut-before.result.0 w.ends_cut-behind.result w.take_cut-before.result.1.now
                w.put_line.new.text.items
                w.in-Insn.ensures c.first-line.ensures.shorter w.take_cut-before.ensures.cut
                w.take_cut-before.ensures.later w.take_cut-before.ensures.rise
                w.ends_cut-behind.ensures w.in_ok-put_line-in-Insn.ensures)
            | in-Other+in_ok-put_line-in-Other+in_ok-put_known-in-Other w ↦
                rw (w.text-is, w.place-is, w.left-is)
                (other_on c.args.source.now c.args.cuts.now c.args.words c.args.base c.loop-rest.rest.now
                c.loop-rest.text.items c.loop-rest.left.now c.loop-rest.number c.loop-rest.place
                c.first-line.result c.args.symbols c.loop-rest.invariant.text c.first-line.ensures.first
                c.requires.symbols
                w.put_line-in-Other.new.text.items w.in-Other.ensures c.first-line.ensures.shorter
                w.in_ok-put_line-in-Other.ensures)
          ];
    }

pub returns-clause-known : goal.returns-clause-known
returns-clause-known c =
    let none : length c.loop-rest.rest.now ≡ 0 = search rules in
    known_whole c.args.source.now c.args.cuts.now c.loop-rest.text.items c.loop-rest.rest.now c.loop-rest.known.items
    c.args.words c.loop-rest.place c.requires.words none
    (TextUnderway-end_whole c.args.source.now c.args.cuts.now c.args.words c.args.base c.loop-rest.rest.now
    c.loop-rest.text.items c.loop-rest.left.now c.loop-rest.number c.loop-rest.place c.loop-rest.invariant.text none)
    c.loop-rest.invariant.known
