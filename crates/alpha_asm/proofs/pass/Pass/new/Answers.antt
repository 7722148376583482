use Rattle.std.proofs.Common.{◌≡◌, length, refl, ap, ◌∙◌}
use Rattle.std.proofs.lemmas.List.Elements.{All-nil}
use Rattle.alpha_asm.specs.Layout.{start, layout, end}
use Rattle.alpha_asm.specs.Place.{place_of_code}
use Rattle.alpha_asm.specs.Pass.{IsAtLevel}
use Rattle.alpha_asm.proofs.pass.Pass.new.Goals as goal

pub returns-clause-stands : goal.returns-clause-stands
unfolding layout end
returns-clause-stands c = record {
  line = refl;
  place = ap (λ l. place_of_code (length l) c.start.result) c.new.ensures.code ∙ c.start.ensures.place;
  code = c.new.ensures.code;
  bytes = c.new.ensures.bytes;
  patches = c.new.ensures.patches;
  labels = c.empty.ensures;
  fields = refl;
  sound =
      let e : place_of_code (length c.new.result.code.items) c.start.result ≡ start =
      ap (λ l. place_of_code (length l) c.start.result) c.new.ensures.code ∙ c.start.ensures.place in
      rw (e, c.new.ensures.bytes) (record { filled = (refl, refl); fresh = λ h. (refl, refl, refl) });
  leveled = rw c.new.ensures.code (record { insns = All-nil (IsAtLevel c.start.result.level); fresh = λ h. refl });
}
