-- The tally of a list of lit pixels' luminances: their count, the sum of their steps, the darkest and the brightest. Assumes nothing.
use Rattle.std.specs.Prelude.{cond, None, Option, Some, List, [], ◌∷◌, ◌+◌, ℤ, pos, ◌+ℤ◌, length}
use Rattle.number.proofs.Laws.{at_most, stored_worth}
use Rattle.number.specs.declared.ratio.Stored.{Stored}
use Rattle.average.specs.Averages.{steps_of}
use Rattle.average.specs.declared.tally.Tally.{Tally}
use Rattle.average.specs.declared.tally.Extremes.{Extremes}

-- the sum of their steps
unfoldable pub sum_of : List Stored → ℤ
sum_of [] = pos 0
sum_of (y ∷ ys) = steps_of y +ℤ sum_of ys

-- "the smallest and the largest stored luminance among lit pixels, compared by worth": of two. Equal worths are one number, since 2M + 1 is
-- odd, so that it does not matter which of two equals is taken.
abbrev pub darker : Stored → Stored → Stored
darker x y = cond (at_most (stored_worth x) (stored_worth y)) x y

abbrev pub brighter : Stored → Stored → Stored
brighter x y = cond (at_most (stored_worth x) (stored_worth y)) y x

-- the darkest and the brightest
infix 40 ◌up_to◌
abbrev pub ◌up_to◌ : Stored → Stored → Extremes
d up_to b = record { darkest = d; brightest = b }

-- of two lists, from theirs
abbrev pub join_extremes : Option Extremes → Option Extremes → Option Extremes
join_extremes None e = e
join_extremes (Some e) None = Some e
join_extremes (Some e) (Some f) = Some (darker e.darkest f.darkest up_to brighter e.brightest f.brightest)

-- of a list. "On a page with no lit pixel both are absent."
unfoldable pub extremes_of : List Stored → Option Extremes
extremes_of [] = None
extremes_of (y ∷ ys) = join_extremes (Some (y up_to y)) (extremes_of ys)

-- each by itself: (0,0), which no luminance is, where it is absent
abbrev pub darkest_of : Option Extremes → Stored
darkest_of None = record { exponent = 0; mantissa = 0 }
darkest_of (Some e) = e.darkest

abbrev pub brightest_of : Option Extremes → Stored
brightest_of None = record { exponent = 0; mantissa = 0 }
brightest_of (Some e) = e.brightest

-- in numbers: E and M of the darkest, then of the brightest
abbrev pub extremes_values : Option Extremes → List ℤ
extremes_values e =
    pos (darkest_of e).exponent ∷ pos (darkest_of e).mantissa ∷ pos (brightest_of e).exponent ∷ pos (brightest_of e).mantissa ∷ []

-- N, "the sum of steps (0 if N = 0)" and the extremes; A and the stored average follow from N and the sum by `average_of`
abbrev pub tally_of : List Stored → Tally
tally_of ys = record { count = length ys; sum = sum_of ys; extremes = extremes_of ys }

-- the tally of two lists one after the other, from theirs
abbrev pub join : Tally → Tally → Tally
join t u = record { count = t.count + u.count; sum = t.sum +ℤ u.sum; extremes = join_extremes t.extremes u.extremes }
