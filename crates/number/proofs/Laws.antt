-- Stored numbers for the crates above: what storing is, and its laws, each once and for any rational. The tone steps cite this module and
-- the types that the code declares, and nothing beneath. Assumes nothing.

-- lists; fractions; the rule of storing, worths in units of 2^-137, and what is stored; channels and their worths
pub use Rattle.number.specs.Lists.{Every, Occurs}
pub use Rattle.number.proofs.Lists.{every_map, every_occurs, every_take, every_drop, every_append, Filled, filled_none, filled_next}
pub use Rattle.number.specs.Fractions.{Frac, ◌over◌, ◌·◌, ◌÷◌, ◌times◌, power, two_to_minus, two_to, two_to_the}
pub use Rattle.number.specs.Fractions.{Positive, Equal, AtMost, Below, at_most}
pub use Rattle.number.specs.Storing.{Normalised, Scales, IsMantissa, Stores, unit, worth, stored_worth, stored_of, ratio_of}
pub use Rattle.number.specs.Channels.{IsLit, IsChannel, worth_of, code_of, code_channel, Coded, IsCode}
-- the claims: one exponent and mantissa, which `exponent_of` and `mantissa_of` are; what storing promises; where lit channels lie
pub use Rattle.number.specs.Claims.{Near, Promised}
pub use Rattle.number.proofs.Exponents.{one_exponent}
pub use Rattle.number.proofs.Storing.{stores_by_rule}
pub use Rattle.number.proofs.Scaling.{promised}
pub use Rattle.number.proofs.Sources.{lit_in_range}
-- differences of natural numbers, which signed numbers are; 2 to the power of one against a fraction
pub use Rattle.number.proofs.Differences.{same_difference, sub_pos, sub_neg, sub_cases, sub_add, sub_plus, sub_minus, sub_times}
pub use Rattle.number.proofs.Differences.{sub_most, sub_least, Lowered, lowered}
pub use Rattle.number.proofs.Powers.{power_at_most, below_power}
-- a mantissa is one
pub use Rattle.number.proofs.Scaling.{is_mantissa}
-- equal fractions are stored alike; only the difference of the powers counts, which go into a fraction and out of it
pub use Rattle.number.proofs.Scaling.{denominator_pos, scales_equal, rescale, powers_into, whole_powers_into, powers_out}
-- a factor 2^k moves only the exponent; storing is monotone in the worth; a stored worth is stored as itself
pub use Rattle.number.proofs.Scaling.{shift_exponent, worth_mono, idempotent}
-- the thresholds of the exponent
pub use Rattle.number.proofs.Scaling.{at_most_down, above_down, at_most_up, above_up}
-- an exponent from 0 on, and worths in units; what stores a number is `stored_of` it
pub use Rattle.number.proofs.Storing.{unit_pos, unit_power, exponent_natural, worth_scaled, near, stored_as}
-- where the exponent fits eight bits
pub use Rattle.number.proofs.Storing.{too_small_at, fits_at, too_large_at, in_range, stored_alike, stores_alike}
pub use Rattle.number.proofs.Storing.{fits_between, ratio_above, ratio_at_most}
-- a fraction that is known to lie in the cell of a mantissa
pub use Rattle.number.proofs.Normalised.{cell}
-- a sum cut to one sticky bit is stored as the whole sum
pub use Rattle.number.proofs.Sticky.{sticky_bit}
-- the order of 256E + M; channels
pub use Rattle.number.proofs.Storing.{code_order, by_code, code_mono}
pub use Rattle.number.proofs.Channels.{code_channel_law, channel_code, code_refused, code_valid, channel_order, channel_valid}
pub use Rattle.number.proofs.Sources.{half_valid, single_valid, rgbe_valid}
pub use Rattle.number.proofs.Halves.{half_finite, plain_half}
