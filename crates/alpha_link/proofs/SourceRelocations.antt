-- The relocations of fixes that stand where they may, each behind those before it, are good.
use Rattle.std.proofs.Common.{◌≡◌, ℕ, ℤ, pos, negsuc, ◌+◌, ◌^◌, ◌<◌, ◌≤◌, Bool, true, false, cond, nat_lt, List, []}
use Rattle.std.proofs.Common.{◌∷◌, ◌++◌, length, Option, None, Some, refl, sym, ap, subst, ◌∙◌, append_assoc, arith}
use Rattle.std.specs.Prelude.{⊤}
use Rattle.std.specs.Option.{option_map, option_map_or, option_and_then}
use Rattle.std.specs.List.{filter_map, cons_option, position_or_len}
use Rattle.std.specs.Str.{bytes_eq}
use Rattle.std.proofs.lemmas.Bool.{ltb-true}
use Rattle.std.proofs.lemmas.Bool.Decides.{nat_tests}
use Rattle.std.proofs.lemmas.List.{append-nil}
use Rattle.alpha_text.specs.References.{IsOffset}
use Rattle.alpha_asm.specs.declared.place.Section.{Section}
use Rattle.alpha_asm.specs.declared.place.Section.TheVariants as sides
use Rattle.alpha_asm.specs.Program.{Target, by_insn, by_cell, by_entry}
use Rattle.alpha_asm.specs.Patches.{Fix}
use Rattle.alpha_link.specs.declared.header.Sizes.{Sizes}
use Rattle.alpha_asm.specs.declared.patch.RelocationKind.{RelocationKind}
use Rattle.alpha_asm.specs.declared.patch.RelocationKind.TheVariants.{Insn, Quad}
use Rattle.alpha_link.specs.declared.relocation.Relocation.{Relocation}
use Rattle.alpha_link.specs.Relocations.{Body, is_addend, stands_at, follows, follows_all, relocation_fits}
use Rattle.alpha_link.specs.Relocations.{IsRelocation}
use Rattle.alpha_link.specs.Parts.{AreGood}
use Rattle.alpha_link.specs.Made.{number_in, kind_in, offset_in, relocation_with, relocation_for}
use Rattle.alpha_link.proofs.SourceSymbols.{slice_get-last}

-- a kind of relocations of a section
abbrev pub is_of_section : Section → RelocationKind → Bool
is_of_section sides.Code (Insn by) = true
is_of_section sides.Code Quad = false
is_of_section sides.Data (Insn by) = false
is_of_section sides.Data Quad = true

-- how far at least the next one stands behind it
abbrev pub least_distance : Section → ℕ
least_distance sides.Code = 1
least_distance sides.Data = 8

kind_of_side : (side : Section) (target : Target) (k : RelocationKind) → kind_in side target ≡ Some k
    → is_of_section side k ≡ true
kind_of_side sides.Code (by_insn by words) k e = let same : Insn by ≡ k = cc in rw (← same) refl
kind_of_side sides.Code by_cell k e = cc
kind_of_side sides.Code by_entry k e = cc
kind_of_side sides.Data (by_insn by words) k e = cc
kind_of_side sides.Data by_cell k e = let same : Quad ≡ k = cc in rw (← same) refl
kind_of_side sides.Data by_entry k e = cc

-- where a relocation stands, and what it adds
pub record IsPutField (b : Body) (low : ℕ) (k : RelocationKind) (f : Fix) : Type 0 where
  pub not_before : low ≤ offset_in f.at f.name.target
  pub stands : stands_at b k (offset_in f.at f.name.target) ≡ true
  pub small : offset_in f.at f.name.target < 2 ^ 32
  pub offset : IsOffset f.name.reference.offset

-- what holds of something that is there, or else
abbrev pub IfSomeOr : {A : Type 0} → (A → Type 0) → Option A → Type 0 → Type 0
IfSomeOr P None none = none
IfSomeOr P (Some x) none = P x

-- fixes of a section stand where they may, each behind those before it, and the first not below an offset
abbrev pub IsFixChain : Section → Body → ℕ → List Fix → Type 0
IsFixChain side b low [] = ⊤
IsFixChain side b low (f ∷ fs) =
    IfSomeOr (λ k. IsPutField b low k f × IsFixChain side b (offset_in f.at f.name.target + least_distance side) fs)
    (kind_in side f.name.target)
    (IsFixChain side b low fs)

-- a relocation of a section from an offset on follows those before it
abbrev FollowsFrom : Section → List Relocation → ℕ → Type 0
FollowsFrom side before low =
    (r : Relocation) → is_of_section side r.kind ≡ true → low ≤ r.offset → follows_all before r ≡ true

ready_up : (side : Section) (before : List Relocation) (low high : ℕ) → low ≤ high → FollowsFrom side before low
    → FollowsFrom side before high
ready_up side before low high h ready r k l = ready r k (omega arith)

follows_code : (k l : RelocationKind) (a b : ℕ) → is_of_section sides.Code k ≡ true → is_of_section sides.Code l ≡ true
    → a + 1 ≤ b
    → follows k a l b ≡ true
follows_code Quad l a b h g le = cc
follows_code (Insn by) Quad a b h g le = cc
follows_code (Insn by) (Insn other) a b h g le = grind (arith, nat_tests)

follows_data : (k l : RelocationKind) (a b : ℕ) → is_of_section sides.Data k ≡ true → is_of_section sides.Data l ≡ true
    → a + 8 ≤ b
    → follows k a l b ≡ true
follows_data (Insn by) l a b h g le = cc
follows_data Quad (Insn by) a b h g le = cc
follows_data Quad Quad a b h g le = grind (arith, nat_tests)

follows_side : (side : Section) (k l : RelocationKind) (a b : ℕ) → is_of_section side k ≡ true
    → is_of_section side l ≡ true
    → a + least_distance side ≤ b → follows k a l b ≡ true
follows_side sides.Code k l a b h g le = follows_code k l a b h g le
follows_side sides.Data k l a b h g le = follows_data k l a b h g le

follows_last : (before : List Relocation) (last r : Relocation) → follows last.kind last.offset r.kind r.offset ≡ true
    → follows_all (before ++ last ∷ []) r ≡ true
follows_last before last r h =
    ap (λ (o : Option Relocation). option_map_or (λ l. follows l.kind l.offset r.kind r.offset) o true)
    (slice_get-last before last)
    ∙ h

ready_next : (side : Section) (before : List Relocation) (last : Relocation) → is_of_section side last.kind ≡ true
    → FollowsFrom side (before ++ last ∷ []) (last.offset + least_distance side)
ready_next side before last k r l h =
    follows_last before last r (follows_side side last.kind r.kind last.offset r.offset k l h)

addend_so : (z : ℤ) → IsOffset z → is_addend z ≡ true
addend_so (pos n) h = grind (arith, nat_tests)
addend_so (negsuc n) h = grind (arith, nat_tests)

number_below : (names : List (List ℕ)) (name : List ℕ) (n : ℕ) → number_in names name ≡ Some n → n < length names
number_below names name n e = by (nat_lt place (length names)) refl e
  where
    place : ℕ
    place = position_or_len (λ m. bytes_eq m name) names

    by : (b : Bool) → nat_lt place (length names) ≡ b → cond b (Some place) None ≡ Some n → n < length names
    by true t h = let same : place ≡ n = cc in rw (← same) (ltb-true place (length names) t)
    by false t h = absurd cc

fits_so : (z : Sizes) (b : Body) (before : List Relocation) (r : Relocation) → r.symbol < z.symbols
    → is_addend r.addend ≡ true → stands_at b r.kind r.offset ≡ true → follows_all before r ≡ true
    → relocation_fits z b before r ≡ true
unfolding relocation_fits
fits_so z b before r known addend stands behind =
    let symbol : nat_lt r.symbol z.symbols ≡ true = grind (arith, nat_tests) in
    rw (symbol, addend, stands, behind) refl

-- the relocations of further fixes are good behind others
abbrev RelocationContinues : Section → Sizes → Body → List (List ℕ) → List Fix → Type 0
RelocationContinues side z b names fs =
    (before : List Relocation) (low : ℕ) → FollowsFrom side before low → IsFixChain side b low fs
    → AreGood (IsRelocation z b) before (filter_map (relocation_for side names) fs)

RelocationContinues-next : (side : Section) (z : Sizes) (b : Body) (names : List (List ℕ)) (before : List Relocation)
    (low : ℕ) (f : Fix) (fs : List Fix) (k : RelocationKind) (o : Option ℕ)
    → z.symbols ≡ length names → length names < 2 ^ 32 → FollowsFrom side before low
    → is_of_section side k ≡ true → number_in names f.name.reference.label ≡ o → IsPutField b low k f
    → IsFixChain side b (offset_in f.at f.name.target + least_distance side) fs → RelocationContinues side z b names fs
    → AreGood (IsRelocation z b) before
    (cons_option (option_map (relocation_with k (offset_in f.at f.name.target) f.name.reference.offset) o)
    (filter_map (relocation_for side names) fs))
RelocationContinues-next side z b names before low f fs k None count few ready so e put rest more =
    more before (offset_in f.at f.name.target + least_distance side)
    (ready_up side before low (offset_in f.at f.name.target + least_distance side)
    (omega (arith, put.not_before)) ready) rest
RelocationContinues-next side z b names before low f fs k (Some n) count few ready so e put rest more =
    let r : Relocation = relocation_with k (offset_in f.at f.name.target) f.name.reference.offset n in
    let known : n < length names = number_below names f.name.reference.label n e in (
      record {
        fits =
            fits_so z b before r (omega arith) (addend_so f.name.reference.offset put.offset) put.stands
            (ready r so put.not_before);
        offset = put.small;
        symbol = omega arith;
      },
      more (before ++ r ∷ []) (offset_in f.at f.name.target + least_distance side) (ready_next side before r so) rest,
    )

one_fix : (side : Section) (z : Sizes) (b : Body) (names : List (List ℕ))
    (before : List Relocation) (low : ℕ) (f : Fix) (fs : List Fix) (o : Option RelocationKind)
    → z.symbols ≡ length names → length names < 2 ^ 32 → FollowsFrom side before low
    → kind_in side f.name.target ≡ o
    → IfSomeOr (λ k. IsPutField b low k f × IsFixChain side b (offset_in f.at f.name.target + least_distance side) fs) o
    (IsFixChain side b low fs)
    → RelocationContinues side z b names fs
    → AreGood (IsRelocation z b) before (filter_map (relocation_for side names) (f ∷ fs))
one_fix side z b names before low f fs None count few ready e rest more = rw e (more before low ready rest)
one_fix side z b names before low f fs (Some k) count few ready e (put, rest) more =
    rw e
    (RelocationContinues-next side z b names before low f fs k (number_in names f.name.reference.label) count few ready
    (kind_of_side side f.name.target k e) refl put rest more)

pub relocations_good : (side : Section) (z : Sizes) (b : Body)
    (names : List (List ℕ)) (before : List Relocation) (low : ℕ) (fs : List Fix)
    → z.symbols ≡ length names → length names < 2 ^ 32 → FollowsFrom side before low → IsFixChain side b low fs
    → AreGood (IsRelocation z b) before (filter_map (relocation_for side names) fs)
relocations_good side z b names before low [] count few ready chain = tt
relocations_good side z b names before low (f ∷ fs) count few ready chain =
    one_fix side z b names before low f fs (kind_in side f.name.target) count few ready refl chain
    (λ next high so rest. relocations_good side z b names next high fs count few so rest)

-- a relocation of the data follows all of the code
code_kind : (f : Fix) (r : Relocation) (o : Option RelocationKind) (m : Option ℕ) → kind_in sides.Code f.name.target ≡ o
    → option_and_then (λ k. option_map (relocation_with k (offset_in f.at f.name.target) f.name.reference.offset) m) o
    ≡ Some r
    → is_of_section sides.Code r.kind ≡ true
code_kind f r None m e h = absurd cc
code_kind f r (Some k) None e h = absurd cc
code_kind f r (Some k) (Some n) e h =
    let same : relocation_with k (offset_in f.at f.name.target) f.name.reference.offset n ≡ r = cc in
    rw (← same) (kind_of_side sides.Code f.name.target k e)

quad_behind : (k l : RelocationKind) (a b : ℕ) → is_of_section sides.Code k ≡ true → is_of_section sides.Data l ≡ true
    → follows k a l b ≡ true
quad_behind Quad l a b h g = cc
quad_behind (Insn by) Quad a b h g = refl
quad_behind (Insn by) (Insn other) a b h g = cc

data_more : (names : List (List ℕ)) (before : List Relocation) (f : Fix) (fs : List Fix) (o : Option Relocation)
    → relocation_for sides.Code names f ≡ o → FollowsFrom sides.Data before 0
    → ((next : List Relocation) → FollowsFrom sides.Data next 0
    → FollowsFrom sides.Data (next ++ filter_map (relocation_for sides.Code names) fs) 0)
    → FollowsFrom sides.Data (before ++ cons_option o (filter_map (relocation_for sides.Code names) fs)) 0
data_more names before f fs None e ready more = more before ready
data_more names before f fs (Some r) e ready more =
    let next : FollowsFrom sides.Data (before ++ r ∷ []) 0 = λ s k l. follows_last before r s
    (quad_behind r.kind s.kind r.offset s.offset
    (code_kind f r (kind_in sides.Code f.name.target) (number_in names f.name.reference.label) refl e) k) in
    subst (λ (l : List Relocation). FollowsFrom sides.Data l 0)
    (append_assoc before (r ∷ []) (filter_map (relocation_for sides.Code names) fs)) (more (before ++ r ∷ []) next)

data_behind : (names : List (List ℕ)) (before : List Relocation) (fs : List Fix) → FollowsFrom sides.Data before 0
    → FollowsFrom sides.Data (before ++ filter_map (relocation_for sides.Code names) fs) 0
data_behind names before [] ready =
    subst (λ (l : List Relocation). FollowsFrom sides.Data l 0) (sym (append-nil before)) ready
data_behind names before (f ∷ fs) ready =
    data_more names before f fs (relocation_for sides.Code names f) refl ready (λ next so. data_behind names next fs so)

pub good_append : {X : Type 0} (Good : List X → X → Type 0) (before xs ys : List X) → AreGood Good before xs
    → AreGood Good (before ++ xs) ys → AreGood Good before (xs ++ ys)
good_append Good before [] ys a b = rw (append-nil before) at b
good_append Good before (x ∷ xs) ys (here, a) b =
    (here, good_append Good (before ++ x ∷ []) xs ys a (rw (append_assoc before (x ∷ []) xs) b))

-- those of the code and then those of the data
pub AreGood-all_relocations : (z : Sizes) (b : Body) (names : List (List ℕ)) (fs : List Fix) → z.symbols ≡ length names
    → length names < 2 ^ 32 → IsFixChain sides.Code b 0 fs → IsFixChain sides.Data b 0 fs
    → AreGood (IsRelocation z b) []
    (filter_map (relocation_for sides.Code names) fs ++ filter_map (relocation_for sides.Data names) fs)
AreGood-all_relocations z b names fs count few words quads =
    good_append (IsRelocation z b) [] (filter_map (relocation_for sides.Code names) fs)
    (filter_map (relocation_for sides.Data names) fs)
    (relocations_good sides.Code z b names [] 0 fs count few (λ r k l. refl) words)
    (relocations_good sides.Data z b names (filter_map (relocation_for sides.Code names) fs) 0 fs count few
    (data_behind names [] fs (λ r k l. refl)) quads)
