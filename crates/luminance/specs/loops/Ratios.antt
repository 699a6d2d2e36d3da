-- A ratio's stored number as a plain pair of bytes. Assumes nothing.
use Rattle.number.specs.declared.ratio.Stored.{Stored}
use Rattle.std.specs.Prelude.{None, Option, Some}

-- (0,0) where there is none
abbrev pub stored_in : Option Stored → Stored
stored_in (Some s) = s
stored_in None = record { exponent = 0; mantissa = 0 }
