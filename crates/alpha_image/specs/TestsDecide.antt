-- That the tests of an image's numbered fields decide their rules, each rule by a name.
use Rattle.std.specs.Prelude.{◌≡◌, ◌+◌, ◌*◌, ◌%◌, ◌^◌, ◌<◌, ◌≤◌, ◌↔◌, ◌⊎◌, IsTrue, length, map, sum_by, All, AllPairs}
use Rattle.std.specs.List.Sorted.{IsStrictlyIncreasing}
use Rattle.alpha_image.specs.Numbers.{Numbers}
use Rattle.alpha_image.specs.Rules.{Holds, AreApart, code_segment, size_of_segment, regions, IsBase}
use Rattle.alpha_image.specs.FieldTests.{is_base, data_bases_fit, code_words_fit, data_bytes_fit, zeroed_bytes_fit}
use Rattle.alpha_image.specs.FieldTests.{stack_bytes_fit, entry_fits, regions_fit, level_fits, segments_fit}

-- field 1
abbrev pub CodeBaseFits : Numbers → Type 0
CodeBaseFits n = IsBase n.code_base

-- field 2: each base is above the base before it
abbrev pub DataBasesFit : Numbers → Type 0
DataBasesFit n = All (λ s. IsBase s.base) n.segments × IsStrictlyIncreasing (map (λ s. s.base) n.segments)

-- field 3
abbrev pub CodeWordsFit : Numbers → Type 0
CodeWordsFit n = (0 < n.words) × (n.words ≤ 262144) × (n.code_base + 4 * n.words ≤ 2 ^ 30)

-- field 4
abbrev pub DataBytesFit : Numbers → Type 0
DataBytesFit n = All (λ s. s.filled ≤ 16777216) n.segments

-- field 5
abbrev pub ZeroedBytesFit : Numbers → Type 0
ZeroedBytesFit n =
    (sum_by size_of_segment n.segments ≤ 16777216) × All (λ s. s.base + size_of_segment s ≤ 2 ^ 30) n.segments

-- field 6
abbrev pub StackBytesFit : Numbers → Type 0
StackBytesFit n = (16 ≤ n.stack) × (n.stack ≤ 1048576) × (n.stack % 16 ≡ 0)

-- field 7
abbrev pub EntryFits : Numbers → Type 0
EntryFits n = (n.entry % 4 ≡ 0) × Holds (code_segment n) n.entry

-- field 8
abbrev pub RegionsFit : Numbers → Type 0
RegionsFit n = AllPairs AreApart (regions n)

-- field 9
abbrev pub LevelFits : Numbers → Type 0
LevelFits n = (n.level ≡ 1) ⊎ (n.level ≡ 2)

-- field 10
abbrev pub SegmentsFit : Numbers → Type 0
SegmentsFit n = length n.segments ≤ 8

-- each test passes exactly where its rule holds
pub record TestsDecide (n : Numbers) : Type 0 where
  pub code_base : IsTrue (is_base n.code_base) ↔ CodeBaseFits n
  pub data_bases : IsTrue (data_bases_fit n.segments) ↔ DataBasesFit n
  pub words : IsTrue (code_words_fit n.code_base n.words) ↔ CodeWordsFit n
  pub filled : IsTrue (data_bytes_fit n.segments) ↔ DataBytesFit n
  pub zeroed : IsTrue (zeroed_bytes_fit n.segments) ↔ ZeroedBytesFit n
  pub stack : IsTrue (stack_bytes_fit n.stack) ↔ StackBytesFit n
  pub entry : IsTrue (entry_fits n.code_base n.words n.entry) ↔ EntryFits n
  pub regions : IsTrue (regions_fit n) ↔ RegionsFit n
  pub level : IsTrue (level_fits n.level) ↔ LevelFits n
  pub segments : IsTrue (segments_fit n.segments) ↔ SegmentsFit n
