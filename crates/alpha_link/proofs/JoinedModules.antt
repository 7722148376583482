-- Modules are joined one after the other.
use Rattle.std.proofs.Common.{◌≡◌, ℕ, ◌+◌, ◌-◌, ◌<◌, ◌≤◌, List, [], ◌∷◌, ◌++◌, length, take, drop, replicate, get_or}
use Rattle.std.proofs.Common.{Option, None, Some, is_none, not, slice_get, refl, sym, subst, ap, ◌∙◌, append_assoc}
use Rattle.std.proofs.Common.{arith}
use Rattle.std.specs.Prelude.{position}
use Rattle.std.specs.List.{flat_map, filter_map}
use Rattle.std.specs.Option.{option_map, option_map_or}
use Rattle.std.proofs.lemmas.List.{length-append, length-replicate, append-nil}
use Rattle.std.proofs.Math.Seq.{take-length}
use Rattle.alpha_words.specs.declared.Level.TheVariants.{One}
use Rattle.alpha_table.specs.declared.form.Form.{Form}
use Rattle.alpha_table.specs.Decoded.{decoded}
use Rattle.alpha_asm.specs.Layout.{first, padding}
use Rattle.alpha_link.specs.Parts.{ModuleParts, IsModule, sizes_of}
use Rattle.alpha_link.specs.Linked.{Located, located, size, room, symbol_in, address_of, addresses_of, code_after}
use Rattle.alpha_link.specs.Linked.{code_of, bytes_after, bytes_of, data_in, words_in, filled_in, is_in_range}
use Rattle.alpha_link.specs.Linked.{out_of_range_in}
use Rattle.alpha_link.specs.Linked.{out_of_range, addresses_by}
use Rattle.alpha_link.specs.declared.output.Output.{Output}
use Rattle.alpha_link.specs.Output.{code_with_all, bytes_with_all, AreAfterCode, JoinsOne, JoinsAll}
use Rattle.alpha_link.proofs.LoopLists.{drop-get_or, drop-past_end, first-drop_none}
use Rattle.alpha_link.proofs.NameAddresses.{take-next_module}
use Rattle.alpha_link.proofs.LinkedCode.{AreKnownWords-decoded, AreKnownWords-code_words}
use Rattle.alpha_link.proofs.ShiftedRelocations.{bytes_shift, length-bytes_after}
use Rattle.alpha_link.proofs.RelocationSites.{code_with_all-append, length-code_after}

-- the least symbol whose name isn't found
abbrev pub missing_in : (List ℕ → Option ℕ) → Located → Option (ℕ × ℕ)
missing_in find l = symbol_in (λ _ s. is_none (find s.name)) l

abbrev pub missing_by : (List ℕ → Option ℕ) → List Located → Option (ℕ × ℕ)
missing_by find ls = first (missing_in find) ls

-- modules stand behind each other
pub AreAfterCode-located : (ms : List ModuleParts) (number words filled : ℕ)
    → AreAfterCode words filled (located number words filled ms)
AreAfterCode-located [] number words filled = tt
AreAfterCode-located (m ∷ ms) number words filled =
    (refl, (refl, AreAfterCode-located ms (number + 1) (words + length m.words) (filled + room m)))

-- the data bytes so far with those of further modules
abbrev pub data_behind : List Located → List ℕ → List Located → List ℕ
data_behind all bytes [] = bytes
data_behind all bytes (l ∷ ls) = bytes ++ (replicate (l.filled - length bytes) 0 ++ data_in all (l ∷ ls))

-- so many modules are joined
pub record Joined (all : List Located) (n : ℕ) (code : List Form) (bytes : List ℕ) : Type 0 where
  pub filled : ℕ
  pub patched : AreAfterCode (length code) filled (drop n all)
  pub below : length bytes ≤ filled
  pub code_so : code ++ flat_map (code_of all) (drop n all) ≡ flat_map (code_of all) all
  pub bytes_so : data_behind all bytes (drop n all) ≡ data_in all all
  pub met : first (λ l. out_of_range_in (addresses_of all l) l) (drop n all) ≡ out_of_range all
  pub code_size : length code ≡ words_in (take n all)
  pub bytes_size : length bytes ≡ filled_in (take n all)

pub Joined-none : (all : List Located) → AreAfterCode 0 0 all → Joined all 0 [] []
Joined-none all stand = record {
  filled = 0;
  patched = stand;
  below = omega arith;
  code_so = refl;
  bytes_so = begins all stand;
  met = refl;
  code_size = refl;
  bytes_size = refl;
}
  where
    begins : (ls : List Located) → AreAfterCode 0 0 ls → data_behind all [] ls ≡ data_in all ls
    begins [] s = refl
    begins (l ∷ ls) s = ap (λ (k : ℕ). replicate (k - 0) 0 ++ data_in all (l ∷ ls)) s.1.0

last_append : (ls : List Located) (l : Located) → slice_get (ls ++ l ∷ []) (length (ls ++ l ∷ []) - 1) ≡ Some l
last_append ls l =
    let there : length (ls ++ l ∷ []) - 1 ≡ length ls = omega (arith, length-append ls (l ∷ [])) in
    ap (slice_get (ls ++ l ∷ [])) there ∙ seam ls l
  where
    seam : (ls : List Located) (l : Located) → slice_get (ls ++ l ∷ []) (length ls) ≡ Some l
    seam [] l = refl
    seam (x ∷ ls) l = seam ls l

padding-gap : (filled l m long bytes blank pad : ℕ) → l ≡ filled → m ≡ filled + (bytes + blank + pad) → long ≡ l + bytes
    → m - long ≡ blank + pad
padding-gap filled l m long bytes blank pad a b c = omega arith

-- a module more
pub Joined-next : (all : List Located) (n : ℕ) (l : Located) (old new : Output) → n < length all → l ≡ get_or all n l
    → out_of_range_in (addresses_of all l) l ≡ None → JoinsOne (addresses_of all l) l old new
    → Joined all n old.code.items old.bytes.items → Joined all (n + 1) new.code.items new.bytes.items
Joined-next all n l old new within here met one so_far =
    let code = old.code.items in
    let bytes = old.bytes.items in
    let bytes1 = new.bytes.items in
    let rest = drop (n + 1) all in
    let cut : drop n all ≡ l ∷ rest = drop-get_or all n l within ∙ ap (λ (x : Located). x ∷ rest) (sym here) in
    let stand : AreAfterCode (length code) so_far.filled (l ∷ rest) =
    subst (AreAfterCode (length code) so_far.filled) cut so_far.patched in
    let before : bytes ++ (replicate (l.filled - length bytes) 0 ++ data_in all (l ∷ rest)) ≡ data_in all all =
    ap (data_behind all bytes) (sym cut) ∙ so_far.bytes_so in
    let bytes_are : length (bytes_of all l) ≡ length l.parts.bytes =
    length-bytes_after (addresses_of all l) l.parts.relocations l.parts.bytes in
    let long : length bytes1 ≡ l.filled + length l.parts.bytes = ap length one.bytes
    ∙ sized (replicate (l.filled - length bytes) 0) (bytes_of all l) (length-replicate (l.filled - length bytes) 0)
    bytes_are (subst (λ (k : ℕ). length bytes ≤ k) (sym stand.1.0) so_far.below) in
    record {
      filled = so_far.filled + room l.parts;
      patched =
          subst (λ (k : ℕ). AreAfterCode k (so_far.filled + room l.parts) rest)
          (ap (λ (k : ℕ). k + length l.parts.words) (refl) ∙ sym one.size) stand.1.1;
      below = omega (arith, long, stand.1.0);
      code_so = ap (λ (c : List Form). c ++ flat_map (code_of all) rest) one.code
          ∙ (append_assoc code (code_of all l) (flat_map (code_of all) rest)
          ∙ (ap (λ (ls : List Located). code ++ flat_map (code_of all) ls) (sym cut) ∙ so_far.code_so));
      bytes_so = go rest stand.1.1 before stand.1.0 long;
      met = first-drop_none (λ x. out_of_range_in (addresses_of all x) x) all n l _ within here met so_far.met;
      code_size =
          one.size
          ∙ (ap (λ (k : ℕ). k + length l.parts.words) (sym stand.0)
          ∙ sym (ap words_in (take-next_module all n l within here) ∙ ap (λ (o : Option Located).
          option_map_or (λ x. x.words + length x.parts.words) o 0) (last_append (take n all) l)));
      bytes_size = long ∙ sym (ap filled_in (take-next_module all n l within here) ∙ ap (λ (o : Option Located).
          option_map_or (λ x. x.filled + length x.parts.bytes) o 0) (last_append (take n all) l));
    }
  where
    sized : (zeros own : List ℕ) → length zeros ≡ l.filled - length old.bytes.items
        → length own ≡ length l.parts.bytes → length old.bytes.items ≤ l.filled
        → length (old.bytes.items ++ (zeros ++ own)) ≡ l.filled + length l.parts.bytes
    sized zeros own z o h =
        omega (arith, length-append old.bytes.items (zeros ++ own), length-append zeros own, z, o, h)

    go : (rest : List Located)
        → AreAfterCode (length old.code.items + length l.parts.words) (so_far.filled + room l.parts) rest
        → old.bytes.items ++ (replicate (l.filled - length old.bytes.items) 0 ++ data_in all (l ∷ rest))
        ≡ data_in all all
        → l.filled ≡ so_far.filled → length new.bytes.items ≡ l.filled + length l.parts.bytes
        → data_behind all new.bytes.items rest ≡ data_in all all
    go [] s e at long = one.bytes ∙ e
    go (m ∷ rest) s e at long =
        let zeros : m.filled - length new.bytes.items ≡ l.parts.zeroed + padding 13 (size l.parts) =
        padding-gap so_far.filled l.filled m.filled (length new.bytes.items) (length l.parts.bytes) l.parts.zeroed
        (padding 13 (size l.parts)) at s.1.0 long in
        let later = replicate (l.parts.zeroed + padding 13 (size l.parts)) 0 ++ data_in all (m ∷ rest) in
        ap (λ (k : ℕ). new.bytes.items ++ (replicate k 0 ++ data_in all (m ∷ rest))) zeros
        ∙ (ap (λ (b : List ℕ). b ++ later) one.bytes
        ∙ (append_assoc old.bytes.items (replicate (l.filled - length old.bytes.items) 0 ++ bytes_of all l) later
        ∙ (ap (λ (b : List ℕ). old.bytes.items ++ b)
        (append_assoc (replicate (l.filled - length old.bytes.items) 0) (bytes_of all l) later)
        ∙ e)))

-- the next module stands behind what is joined
pub Joined-next_module_place : (all : List Located) (n : ℕ) (l : Located) (code : List Form) (bytes : List ℕ)
    → n < length all
    → l ≡ get_or all n l → Joined all n code bytes → (l.words ≡ length code) × (length bytes ≤ l.filled)
Joined-next_module_place all n l code bytes within here so_far =
    let cut : drop n all ≡ l ∷ drop (n + 1) all =
    drop-get_or all n l within ∙ ap (λ (x : Located). x ∷ drop (n + 1) all) (sym here) in
    let stand : AreAfterCode (length code) so_far.filled (l ∷ drop (n + 1) all) =
    subst (AreAfterCode (length code) so_far.filled) cut so_far.patched in
    (stand.0, subst (λ (k : ℕ). length bytes ≤ k) (sym stand.1.0) so_far.below)

-- behind the last module
pub Joined-JoinsAll : (all : List Located) (n : ℕ) (output : Output) → length all ≤ n → n ≤ length all
    → Joined all n output.code.items output.bytes.items → JoinsAll all output
Joined-JoinsAll all n output past within so_far =
    let none : drop n all ≡ [] = drop-past_end all n past in
    let whole : take n all ≡ all = ap (λ (k : ℕ). take k all) (omega arith) ∙ take-length all in
    record {
      met = sym so_far.met ∙ ap (first (λ l. out_of_range_in (addresses_of all l) l)) none;
      code =
          sym (append-nil output.code.items)
          ∙ (sym (ap (λ (ls : List Located). output.code.items ++ flat_map (code_of all) ls) none) ∙ so_far.code_so);
      bytes = sym (ap (data_behind all output.bytes.items) none) ∙ so_far.bytes_so;
      words = so_far.code_size ∙ ap words_in whole;
      filled = so_far.bytes_size ∙ ap filled_in whole;
    }

-- what a module is joined by
pub joins_one : (addresses wanted : List (Option ℕ)) (l : Located) (old appended new : Output) → IsModule l.parts
    → addresses ≡ wanted → l.words ≡ length old.code.items → length old.bytes.items ≤ l.filled
    → appended.code.items ≡ old.code.items ++ filter_map decoded l.parts.words
    → appended.bytes.items ≡ old.bytes.items ++ (replicate (l.filled - length old.bytes.items) 0 ++ l.parts.bytes)
    → length appended.code.items ≡ length old.code.items + length l.parts.words
    → new.code.items ≡ code_with_all addresses l l.parts.relocations appended.code.items
    → new.bytes.items ≡ bytes_with_all addresses l l.parts.relocations appended.bytes.items → JoinsOne wanted l old new
joins_one addresses wanted l old appended new good same words filled code bytes long put_code put_bytes =
    let rs = l.parts.relocations in
    let own = filter_map decoded l.parts.words in
    let known = AreKnownWords-decoded l.parts.words (AreKnownWords-code_words One l.parts.words good.words) in
    let blank : List ℕ = replicate (l.filled - length old.bytes.items) 0 in
    let start : l.filled ≡ length (old.bytes.items ++ blank) = omega (
      arith,
      length-append old.bytes.items blank,
      length-replicate {A = ℕ} (l.filled - length old.bytes.items) 0,
      filled,
    ) in
    let code_is : new.code.items ≡ old.code.items ++ code_after addresses l rs own =
    put_code
    ∙ (ap (code_with_all addresses l rs) code ∙ code_with_all-append addresses l (sizes_of l.parts) l.parts.words
    l.parts.bytes own old.code.items words known [] rs own good.relocations (λ k. refl)) in
    let one : JoinsOne addresses l old new = record {
      code = code_is;
      bytes = put_bytes
          ∙ (ap (bytes_with_all addresses l rs) (bytes ∙ sym (append_assoc old.bytes.items blank l.parts.bytes))
          ∙ (bytes_shift addresses l rs (old.bytes.items ++ blank) l.parts.bytes start
          ∙ append_assoc old.bytes.items blank (bytes_after addresses rs l.parts.bytes)));
      size = omega (
        arith,
        ap length code_is,
        length-append old.code.items (code_after addresses l rs own),
        length-code_after addresses l rs own,
        ap length code,
        length-append old.code.items own,
        long,
      );
    } in
    subst (λ (a : List (Option ℕ)). JoinsOne a l old new) same one

-- the least relocation of a module that doesn't fit
pub out_of_range_as : (find : List ℕ → Option ℕ) (all : List Located) (l : Located) (o : Option ℕ)
    → find ≡ address_of all
    → o ≡ position (λ r. not (is_in_range (addresses_by find l) l r)) l.parts.relocations
    → out_of_range_in (addresses_of all l) l ≡ option_map (λ n. (l.number, n)) o
out_of_range_as find all l o same e =
    sym
    (ap (option_map (λ (n : ℕ). (l.number, n))) e
    ∙ ap (λ (f : List ℕ → Option ℕ). out_of_range_in (addresses_by f l) l) same)
