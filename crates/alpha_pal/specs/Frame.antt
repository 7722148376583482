-- A trap frame: 48 bytes that hold six quadwords.
use Rattle.std.specs.Prelude.{ℕ, List, ◌++◌}
use Rattle.alpha_words.specs.Digits.{low_bytes, little_at}
use Rattle.alpha_pal.specs.declared.frame.Frame.{Frame}

-- the bytes of a frame, in this order
unfoldable pub bytes_of : Frame → List ℕ
bytes_of f =
    low_bytes 8 f.ps ++ low_bytes 8 f.pc ++ low_bytes 8 f.gp ++ low_bytes 8 f.r16 ++ low_bytes 8 f.r17
    ++ low_bytes 8 f.r18

-- the frame that these bytes hold
unfoldable pub frame_of : List ℕ → Frame
frame_of bytes = record {
  ps = little_at 8 0 bytes;
  pc = little_at 8 8 bytes;
  gp = little_at 8 16 bytes;
  r16 = little_at 8 24 bytes;
  r17 = little_at 8 32 bytes;
  r18 = little_at 8 40 bytes;
}
