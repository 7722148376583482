use Rattle.std.specs.Prelude.{vec_len, vec_capacity}
use Rattle.std.proofs.Common.{◌≡◌, ◌≤◌, map, take, Some}
use Rattle.alpha_table.specs.Decoded.{decoded}
use Rattle.alpha_image.specs.Reading.{words_of}
use Rattle.alpha_image.proofs.CodeWords.{AreInsideLevel}
use Rattle.alpha_image.proofs.words.read_words.Given as goal

abbrev pub invariant-loop-place : goal.invariant-loop-place
invariant-loop-place l = record {
  inside : AreInsideLevel l.level (words_of l.code) l.place;
  read : map decoded (take l.place (words_of l.code)) ≡ map Some l.insns.items;
  count : vec_len l.insns ≡ l.place;
  room : l.words ≤ vec_capacity l.insns;
}
