-- Differences a − b of natural numbers, `sub_ℕ a b`: their sums, products and order. Assumes nothing.
use Rattle.std.proofs.Common.{◌≡◌, ℕ, zero, suc, ◌+◌, ◌-◌, ◌*◌, ◌≤◌, ℤ, pos, negsuc, ◌+ℤ◌, ◌-ℤ◌, ◌*ℤ◌, neg_ℤ, ◌≤ℤ◌, sym, refl, ap, ◌∙◌, subst, add-zero, add-sub_of_le, lt_of_not-le, arith, le→leb, leb→le, le-ltb, lt-ltb}
use native.Mathlib.Decide.{dec_le}
use lib.IntN.{sub_ℕ, +ℤ_assoc, +ℤ_comm, +ℤ_idl, neg_ℤ-+ℤ, pos-*ℤ-pos, negsuc-*ℤ-pos}
use lib.Signed.{le_z_yes}

-- by what it comes to
pub sub_pos : (a b d : ℕ) → a ≡ b + d → sub_ℕ a b ≡ pos d
sub_pos a b d e = rw (le-ltb a b (omega arith)) (ap pos (omega arith))

pub sub_neg : (a b d : ℕ) → b ≡ suc a + d → sub_ℕ a b ≡ negsuc d
sub_neg a b d e = rw (lt-ltb a b (omega arith)) (ap negsuc (omega arith))

-- written otherwise
pub same_difference : (a b c d : ℕ) → a + d ≡ c + b → sub_ℕ a b ≡ sub_ℕ c d
same_difference a b c d e = go (dec_le b a)
  where
    go : Dec (b ≤ a) → sub_ℕ a b ≡ sub_ℕ c d
    go (yes h) = rw (le-ltb a b h, le-ltb c d (omega arith)) (ap pos (omega arith))
    go (no h) = rw (lt-ltb a b (omega arith), lt-ltb c d (omega arith)) (ap negsuc (omega arith))

-- by its sign
pub sub_cases : (P : ℕ → ℕ → Type 0) → ((b d : ℕ) → P (b + d) b) → ((a d : ℕ) → P a (suc a + d)) → (a b : ℕ) → P a b
sub_cases P f g a b = by (dec_le b a)
  where
    by : Dec (b ≤ a) → P a b
    by (yes h) = subst (λ x. P x b) (add-sub_of_le h) (f b (a - b))
    by (no h) = subst (λ x. P a x) (add-sub_of_le (lt_of_not-le h)) (g a (b - suc a))

-- ---- sums

sub_is : (a b : ℕ) → sub_ℕ a b ≡ pos a -ℤ pos b
sub_is a zero = sub_pos a 0 (a + 0) (omega arith)
sub_is a (suc b) = refl

middle : (p q r s : ℤ) → (p +ℤ q) +ℤ (r +ℤ s) ≡ (p +ℤ r) +ℤ (q +ℤ s)
middle p q r s =
    +ℤ_assoc p q (r +ℤ s) ∙ ap (λ z. p +ℤ z) (sym (+ℤ_assoc q r s) ∙ ap (λ z. z +ℤ s) (+ℤ_comm q r) ∙ +ℤ_assoc r q s)
    ∙ sym (+ℤ_assoc p r (q +ℤ s))

pub sub_add : (a b c d : ℕ) → sub_ℕ a b +ℤ sub_ℕ c d ≡ sub_ℕ (a + c) (b + d)
sub_add a b c d =
    rw (sub_is a b, sub_is c d, sub_is (a + c) (b + d), neg_ℤ-+ℤ (pos b) (pos d))
    (middle (pos a) (neg_ℤ (pos b)) (pos c) (neg_ℤ (pos d)))

pub sub_plus : (a b k : ℕ) → sub_ℕ a b +ℤ pos k ≡ sub_ℕ (a + k) b
sub_plus a b k =
    ap (λ z. sub_ℕ a b +ℤ z) (sym (sub_pos k 0 k (omega arith))) ∙ sub_add a b k 0 ∙ ap (sub_ℕ (a + k)) (add-zero b)

pub sub_minus : (a b k : ℕ) → sub_ℕ a b -ℤ pos k ≡ sub_ℕ a (b + k)
sub_minus a b k =
    ap (λ z. z -ℤ pos k) (sub_is a b) ∙ +ℤ_assoc (pos a) (neg_ℤ (pos b)) (neg_ℤ (pos k))
    ∙ ap (λ z. pos a +ℤ z) (sym (neg_ℤ-+ℤ (pos b) (pos k))) ∙ sym (sub_is a (b + k))

-- ---- products

pub sub_times : (a b n : ℕ) → sub_ℕ a b *ℤ pos n ≡ sub_ℕ (a * n) (b * n)
sub_times a b n =
    sub_cases (λ a b. sub_ℕ a b *ℤ pos n ≡ sub_ℕ (a * n) (b * n))
    (λ b d. rw (sub_pos (b + d) b d refl) (pos-*ℤ-pos d n ∙ sym (sub_pos ((b + d) * n) (b * n) (d * n) (omega arith))))
    (λ a d. rw (sub_neg a (suc a + d) d refl) (negsuc-*ℤ-pos d n ∙ negative (suc d * n) (a * n) ((suc a + d) * n) (omega arith)))
    a b
  where
    negative : (k x y : ℕ) → x + k ≡ y → neg_ℤ (pos k) ≡ sub_ℕ x y
    negative k x y e = sym (+ℤ_idl (neg_ℤ (pos k))) ∙ sym (sub_is 0 k) ∙ same_difference 0 k x y (omega arith)

-- ---- order

pub sub_most : (m a b : ℕ) → a ≤ b + m → sub_ℕ a b ≤ℤ pos m
sub_most m =
    sub_cases (λ a b. a ≤ b + m → sub_ℕ a b ≤ℤ pos m) (λ b d h. rw (sub_pos (b + d) b d refl) (le_z_yes (le→leb d m (omega arith))))
    (λ a d h. rw (sub_neg a (suc a + d) d refl) (le_z_yes tt))

pub sub_least : (k a b : ℕ) → b ≤ a + k → neg_ℤ (pos k) ≤ℤ sub_ℕ a b
sub_least zero =
    sub_cases (λ a b. b ≤ a + 0 → pos 0 ≤ℤ sub_ℕ a b) (λ b d h. rw (sub_pos (b + d) b d refl) (le_z_yes (le→leb 0 d (omega arith))))
    (λ a d h. absurd (omega arith))
sub_least (suc k) =
    sub_cases (λ a b. b ≤ a + suc k → negsuc k ≤ℤ sub_ℕ a b) (λ b d h. rw (sub_pos (b + d) b d refl) (le_z_yes tt))
    (λ a d h. rw (sub_neg a (suc a + d) d refl) (le_z_yes (le→leb d k (omega arith))))

-- a number from −k to m is k less than one from 0 to k + m
pub record Lowered (k m : ℕ) (z : ℤ) : Type 0 where
  pub from : ℕ
  pub is : z ≡ sub_ℕ from k
  pub most : from ≤ k + m

pub lowered : (k m : ℕ) (z : ℤ) → neg_ℤ (pos k) ≤ℤ z → z ≤ℤ pos m → Lowered k m z
lowered k m (pos a) l h =
    let top : a ≤ m = leb→le a m h.le in
    record { from = a + k; is = sym (sub_pos (a + k) k a (omega arith)); most = omega arith }
lowered zero m (negsuc a) l h = absurd l.le
lowered (suc k) m (negsuc a) l h =
    let down : a ≤ k = leb→le a k l.le in
    record { from = k - a; is = sym (sub_neg (k - a) (suc k) a (omega arith)); most = omega arith }
