-- The checks of a conversion before its elements, whatever it reads. Assumes nothing.
-- "Converting: 1, 2, 3, 4, then elements in order". "Converting may be given a W" (2026-05): its check, 10, stands "between key and length".
use Rattle.std.specs.Prelude.{ℕ, ◌*◌, leb, eqb}
use Rattle.refusal.specs.declared.Refusal.TheVariants.{BadSize, BadKey, BadWhite, WrongLength, SmallOutput}
use Rattle.refusal.specs.Verdicts.{require, Verdict, accepted}
use Rattle.white.specs.Whites.{white_fits}
use Rattle.word.specs.declared.header.Header.{Header}
use Rattle.word.specs.Words.{pixels, size_fits, key_fits, strip_length}

-- the checks of a source of `count` elements, `per` of them a pixel, and of an output of `room` words
unfoldable pub check_frame : Header → (per count room : ℕ) → Verdict
check_frame h per count room =
    require (size_fits h.width h.height) BadSize 0
    (require (key_fits h.key) BadKey 0
    (require (white_fits h.white) BadWhite 0
    (require (eqb count (per * pixels h)) WrongLength 0
    (require (leb (strip_length h) room) SmallOutput 0
    accepted))))
