use Rattle.std.proofs.Common.{◌≡◌, ℕ, [], ◌∷◌, length, slice_get, Some, sym, ap, subst, ◌∙◌, arith, length-append}
use Rattle.std.proofs.lemmas.Option.{slice_get-get_or}
use Rattle.alpha_rows.specs.Rows.{IsRowAt}
use Rattle.alpha_rows.proofs.RowsOfWords.{AreRows-push, IsRowAt-made, IsRowAt-leaves, length-decoded}
use Rattle.alpha_rows.proofs.make.rows_of.Goals as goal

pub words-preserved : goal.words-preserved
words-preserved c =
    let p = c.args.image.now in
    let insns = c.insns-insns.result.now in
    let rows = c.words.rows.items in
    let k = c.words.place in
    let s = c.row_of.result in
    let size = length-decoded p insns c.insns-insns.ensures.value in
    let insn = c.index-insns-place.result in
    let there : slice_get insns k ≡ Some insn =
    slice_get-get_or insns k insn (omega arith) ∙ ap Some (sym c.index-insns-place.is) in
    let here : IsRowAt p k s = IsRowAt-made p insns k c.words-words.result insn s c.insns-insns.ensures.value there
    c.words-words.ensures.value c.row_of.ensures in
    record {
      size = ap length c.in_ok-push.ensures.items ∙ omega (arith, length-append rows (s ∷ []), c.words.invariant.size);
      each =
          AreRows-push p rows c.push.new.self.items s c.in_ok-push.ensures.items c.words.invariant.each
          (subst (λ (n : ℕ). IsRowAt p n s) (sym c.words.invariant.size) here);
    }

pub returns : goal.returns
returns c =
    let p = c.args.image.now in
    let rows = c.words.rows.items in
    let s = c.leaving_row.result in
    let are = AreRows-push p rows c.push-2.new.self.items s c.in_ok-push-2.ensures.items c.words.invariant.each
    (IsRowAt-leaves p (length rows) s c.leaving_row.ensures) in
    record {
      size =
          ap length c.in_ok-push-2.ensures.items
          ∙ omega (arith, length-append rows (s ∷ []), c.words.invariant.size, c.words-words.ensures.value);
      each = are.each;
    }
