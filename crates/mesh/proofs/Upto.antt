-- What `upto` and `all` find, and rows of a mask.
use mathlib.Core.Path.{◌≡◌, refl, ap, ◌∙◌}
use mathlib.Core.Bool.{Bool, true, false, cond}
use Prim.Native.Nat.{ℕ, zero, suc, ◌+◌, ◌*◌, ◌≤◌, ◌<◌, suc-le-suc, zero-le}
use native.Mathlib.Nat.{le_of_suc-le-suc, not-suc-le-zero, suc-mul, mul-le-mul_right, le_refl}
use native.Mathlib.Omega.{arith}
use borrow.Author.Tests.{eqb-true, eq-eqb}
use Rattle.mesh.specs.Merge.{upto, all}

-- n is how many pass the test before the first that fails, of k
pub record Upto (f : ℕ → Bool) (k n : ℕ) : Type 0 where
  pub most : n ≤ k
  pub pass : (i : ℕ) → i < n → f i ≡ true
  pub stop : n < k → f n ≡ false

pub upto_is : (f : ℕ → Bool) (k n : ℕ) → Upto f k n → upto f k ≡ n
unfolding upto
upto_is f zero n u = let h = u.most in omega arith
upto_is f (suc k) zero u = rw (u.stop (suc-le-suc zero-le))
upto_is f (suc k) (suc n) u =
    rw (u.pass 0 (suc-le-suc zero-le))
    (ap suc
    (upto_is (λ i. f (suc i)) k n
    (record { most = le_of_suc-le-suc u.most; pass = λ i l. u.pass (suc i) (suc-le-suc l); stop = λ l. u.stop (suc-le-suc l) })))

pub upto_of : (f : ℕ → Bool) (k : ℕ) → Upto f k (upto f k)
unfolding upto
upto_of f zero = record { most = zero-le; pass = λ i l. absurd (not-suc-le-zero l); stop = λ l. absurd (not-suc-le-zero l) }
upto_of f (suc k) = go (f 0) refl (upto_of (λ i. f (suc i)) k)
  where
    here : {n : ℕ} → f 0 ≡ true → Upto (λ i. f (suc i)) k n → (i : ℕ) → i < suc n → f i ≡ true
    here e u zero l = e
    here e u (suc i) l = u.pass i (le_of_suc-le-suc l)

    go : (b : Bool) → f 0 ≡ b → Upto (λ i. f (suc i)) k (upto (λ i. f (suc i)) k) → Upto f (suc k) (cond b (suc (upto (λ i. f (suc i)) k)) 0)
    go true e u = record { most = suc-le-suc u.most; pass = here e u; stop = λ l. u.stop (le_of_suc-le-suc l) }
    go false e u = record { most = zero-le; pass = λ i l. absurd (not-suc-le-zero l); stop = λ l. e }

-- two tests that agree below k
pub upto-same : (f g : ℕ → Bool) (k : ℕ) → ((i : ℕ) → i < k → f i ≡ g i) → upto f k ≡ upto g k
upto-same f g k h =
    let u = upto_of g k in
    let l = u.most in
    upto_is f k (upto g k) (record { most = l; pass = λ i li. h i (omega arith) ∙ u.pass i li; stop = λ ln. h (upto g k) ln ∙ u.stop ln })

pub upto-some : (f : ℕ → Bool) (k : ℕ) → 0 < k → f 0 ≡ true → 0 < upto f k
upto-some f k l e = go (upto f k) (upto_of f k)
  where
    go : (n : ℕ) → Upto f k n → 0 < n
    go zero u = let z : ◌≡◌ {A = ℕ} 0 1 = cc (u.stop l) in absurd (omega arith)
    go (suc n) u = omega arith

pub upto_all : (f : ℕ → Bool) (n : ℕ) → ((i : ℕ) → i < n → f i ≡ true) → upto f n ≡ n
upto_all f n h = upto_is f n n (record { most = le_refl n; pass = h; stop = λ l. absurd (omega arith) })

pub all-is : (f : ℕ → Bool) (n : ℕ) → ((i : ℕ) → i < n → f i ≡ true) → all f n ≡ true
unfolding all
all-is f n h = eq-eqb _ _ (upto_all f n h)

pub all_pass : (f : ℕ → Bool) (n i : ℕ) → all f n ≡ true → i < n → f i ≡ true
unfolding all
all_pass f n i h l = (upto_of f n).pass i (rw (eqb-true (upto f n) n h) l)

-- a row below h ends within h rows
pub row_fits : (w h v : ℕ) → v < h → v * w + w ≤ h * w
row_fits w h v l = omega (arith, suc-mul v w, mul-le-mul_right w l)
