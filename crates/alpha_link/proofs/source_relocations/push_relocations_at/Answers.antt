use Rattle.std.proofs.Common.{◌≡◌, ℕ, ◌+◌, ◌<◌, List, [], ◌∷◌, ◌++◌, length, map, drop, get_or, pos, Option, None, Some}
use Rattle.std.proofs.Common.{refl, sym, ap, ◌∙◌, append_assoc, arith}
use Rattle.std.specs.List.{cons_option}
use Rattle.std.proofs.lemmas.List.{append-nil}
use Rattle.alpha_asm.specs.declared.patch.Target.TheVariants.{Put}
use Rattle.alpha_asm.specs.declared.patch.RelocationKind.TheVariants.{Insn}
use Rattle.alpha_asm.specs.declared.statement.RelocField.TheVariants.{Branch}
use Rattle.alpha_asm.specs.declared.patch.Patch.{Patch}
use Rattle.alpha_asm.specs.declared.place.Section.{Section}
use Rattle.alpha_asm.specs.Patches.{fix_of}
use Rattle.alpha_link.specs.declared.relocation.Relocation.{Relocation}
use Rattle.alpha_link.specs.Numbered.{relocation_at, relocations_at}
use Rattle.alpha_link.proofs.LoopLists.{drop-get_or, drop-past_end}
use Rattle.alpha_link.proofs.source_relocations.push_relocations_at.Goals as goal

rest_behind : {A : Type 0} (o : Option A) (rest : List A) → cons_option o [] ++ rest ≡ cons_option o rest
rest_behind None rest = refl
rest_behind (Some x) rest = refl

-- a relocation more, if there is one
one_more : (side : Section) (ps : List Patch) (ns : List ℕ) (i : ℕ) (p : Patch) (old new whole : List Relocation)
    → i < length ps → i < length ns
    → new ≡ old ++ cons_option (relocation_at side (fix_of (get_or ps i p)) (get_or ns i 0)) []
    → old ++ relocations_at side (map fix_of (drop i ps)) (drop i ns) ≡ whole
    → new ++ relocations_at side (map fix_of (drop (i + 1) ps)) (drop (i + 1) ns) ≡ whole
one_more side ps ns i p old new whole in_patches in_numbers pushed before =
    let o = relocation_at side (fix_of (get_or ps i p)) (get_or ns i 0) in
    let rest = relocations_at side (map fix_of (drop (i + 1) ps)) (drop (i + 1) ns) in
    let these : relocations_at side (map fix_of (drop i ps)) (drop i ns) ≡ cons_option o rest =
    ap (λ l. relocations_at side (map fix_of l) (drop i ns)) (drop-get_or ps i p in_patches)
    ∙ ap (relocations_at side (map fix_of (get_or ps i p ∷ drop (i + 1) ps))) (drop-get_or ns i 0 in_numbers) in
    ap (λ l. l ++ rest) pushed
    ∙ (append_assoc old (cons_option o []) rest ∙ (ap (λ l. old ++ l) (rest_behind o rest ∙ sym these) ∙ before))

pub loop-at-preserved : goal.loop-at-preserved
loop-at-preserved c =
    let none : Patch = record {
      to = record { label = record { ref_ptr = (0, 0); now = [] }; offset = pos 0 };
      at = 0;
      line = 0;
      target = Put (Insn Branch);
    } in
    one_more c.args.side c.args.patches.now c.args.numbers.now c.loop-at.at none c.loop-at.relocations.items _ _
    c.loop-at-test.true
    (omega (arith, c.requires)) c.in_ok-push_relocation_at.ensures c.loop-at.invariant

pub returns : goal.returns
returns c =
    let ended : relocations_at c.args.side (map fix_of (drop c.loop-at.at c.args.patches.now))
    (drop c.loop-at.at c.args.numbers.now) ≡ [] =
    ap (λ ps. relocations_at c.args.side (map fix_of ps) (drop c.loop-at.at c.args.numbers.now))
    (drop-past_end c.args.patches.now c.loop-at.at c.loop-at-test.false) in
    sym (ap (λ l. c.loop-at.relocations.items ++ l) ended ∙ append-nil c.loop-at.relocations.items)
    ∙ c.loop-at.invariant
