-- Numbers of bits modulo 8, and sets of them. (This project's own choice.)
use Rattle.std.specs.Prelude.{◌≡◌, ℕ, suc, ◌+◌, ◌%◌, ◌≤◌, IsTrue}
use Rattle.std.specs.Ordering.{nat_cmp}
use Rattle.std.specs.FinSet as set

-- the number is in the set
abbrev pub Has : set.FinSet nat_cmp → ℕ → Type 0
Has numbers n = IsTrue (set.contains numbers n)

-- it is the sum of a number of one set and a number of the other
pub record IsSum (left right : set.FinSet nat_cmp) (sum : ℕ) : Type 0 where
  pub a : ℕ
  pub b : ℕ
  pub a_small : a ≤ 7
  pub b_small : b ≤ 7
  pub has_a : Has left a
  pub has_b : Has right b
  pub is : sum ≡ (a + b) % 8

-- it is the sum of n numbers of the set
pub data SumOf (numbers : set.FinSet nat_cmp) : ℕ → ℕ → Type 0 where
  sum_none : {n sum : ℕ} → n ≡ 0 → sum ≡ 0 → SumOf numbers n sum
  sum_next :
      {n sum : ℕ}
      (m a b : ℕ) → n ≡ suc m → a ≤ 7 → Has numbers a → SumOf numbers m b → sum ≡ (a + b) % 8
      → SumOf numbers n sum

-- from the octet position one of the lengths leads to an octet position of the set
pub record Leads (lengths positions : set.FinSet nat_cmp) (octet : ℕ) : Type 0 where
  pub length : ℕ
  pub small : length ≤ 7
  pub has_length : Has lengths length
  pub reaches : Has positions ((octet + length) % 8)
