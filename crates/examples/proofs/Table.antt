-- The worked examples, computed from the definitions. Assumes nothing.
use mathlib.Core.Path.{refl}
use mathlib.Core.List.{flat_map}
use lib.Ieee.{size}
use Rattle.number.specs.Fractions.{by_range}
use Rattle.number.specs.Storing.{unit, exponent_of, mantissa_of}
use Rattle.number.specs.Channels.{channel_of, channel_of_code}
use Rattle.number.specs.Sources.{channel_of_value, field_value, rgbe_value}
use Rattle.refusal.specs.Verdicts.{require, and_then}
use Rattle.white.specs.Whites.{white_fits}
use Rattle.word.specs.Words.{size_fits, key_fits}
use Rattle.word.specs.Fields.{white_in, check_size_word, check_key_word, decode_word, check_white_word}
use Rattle.frame.specs.Frames.{check_frame}
use Rattle.convert.specs.Converting.{check_source}
use Rattle.strip.specs.Checks.{check_head, check_body, check_with, check_strip, check_output}
use Rattle.luminance.specs.Pixels.{luminance_of}
use Rattle.table.specs.Tables.{greatest}
use Rattle.average.specs.Tables.{log_test, log_of, root_test, root_of}
use Rattle.average.specs.Averages.{stored_average, average_of}
use Rattle.average.specs.Tallies.{sum_of}
use Rattle.tone.specs.Levels.{level_of}
use Rattle.body.specs.Luminances.{luminances_of}
use Rattle.light.specs.Light.{check_light}
use Rattle.page.specs.Checks.{check_tally, check_map}
use Rattle.page.specs.Tallying.{tally_strip}
use Rattle.ppm.specs.Text.{decimal, two_numbers}
use Rattle.ppm.specs.Words.{check_count}
use Rattle.ppm.specs.Answers.{check_input, printed_for}
use Rattle.examples.specs.Examples.{TableHolds}

pub table_holds : TableHolds
unfolding size by_range unit exponent_of mantissa_of channel_of channel_of_code channel_of_value field_value rgbe_value
    require and_then size_fits key_fits check_frame check_source check_size_word check_key_word white_fits white_in check_white_word decode_word check_head check_body check_with check_strip check_output
    luminance_of greatest log_test log_of root_test root_of stored_average average_of sum_of level_of flat_map luminances_of
    check_light check_tally check_map tally_strip decimal two_numbers check_count check_input printed_for
table_holds = refl
