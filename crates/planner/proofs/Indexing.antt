-- What one request more or less makes of the index. Assumes nothing.
use Rattle.std.proofs.Common.{◌≡◌, ℕ, ◌+◌, ◌<◌, ◌≤◌, ◌⊎◌, inl, inr, List, length, get_or, replicate, set, sym, refl, ◌∙◌, add-one, arith}
use Rattle.std.proofs.Math.Seq.{drop-cons}
use Rattle.std.proofs.lemmas.List.{get_or-set_same, get_or-set_other, get_or-replicate, drop_all}
use Rattle.std.proofs.lemmas.Bool.{eq-eqb, ne_eqb, cases_eq}
use Rattle.model.specs.View.{first_at}
use Rattle.planner.specs.Uses.{use_from, Indexes}

pub use_here : (rs : List ℕ) (p b : ℕ) → p < length rs → get_or rs p 0 ≡ b → use_from rs p b ≡ p
unfolding first_at
use_here rs p b l e = rw (drop-cons rs p 0 l, eq-eqb (get_or rs p 0) b e) refl

pub use_later : (rs : List ℕ) (p b : ℕ) → p < length rs → (get_or rs p 0 ≡ b → ⊥) → use_from rs p b ≡ use_from rs (p + 1) b
unfolding first_at
use_later rs p b l n = rw (drop-cons rs p 0 l, ne_eqb (get_or rs p 0) b n, add-one p) refl

pub use_never : (rs : List ℕ) (p b : ℕ) → length rs ≤ p → use_from rs p b ≡ p
unfolding first_at
use_never rs p b l = rw (drop_all p rs l) refl

pub none_left : (rs next after : List ℕ) (n : ℕ) → next ≡ replicate 1024 n → n ≡ length rs → Indexes rs (length rs) next after
none_left rs next after n e f = record {
  told = λ c l. rw (e, get_or-replicate 1024 c n 0 l) (f ∙ sym (use_never rs (length rs) c (omega arith)));
  linked = λ k g l. absurd (omega arith);
}

pub one_more : (rs : List ℕ) (p b : ℕ) (next after : List ℕ) → Indexes rs (p + 1) next after → p < length rs → get_or rs p 0 ≡ b → b < 1024 → length next ≡ 1024 → p < length after →
    Indexes rs p (set next b p) (set after p (get_or next b 0))
one_more rs p b next after h l e m n q = record { told = told; linked = linked }
  where
    told : (c : ℕ) → c < 1024 → get_or (set next b p) c 0 ≡ use_from rs p c
    told c k = go (cases_eq c b)
      where
        go : (c ≡ b) ⊎ (c ≡ b → ⊥) → get_or (set next b p) c 0 ≡ use_from rs p c
        go (inl i) = rw i (get_or-set_same next b p 0 (omega arith) ∙ sym (use_here rs p b l e))
        go (inr i) = get_or-set_other next b c p 0 i ∙ (h.told c k ∙ sym (use_later rs p c l (λ f. i (sym f ∙ e))))

    linked : (k : ℕ) → p ≤ k → k < length rs → get_or (set after p (get_or next b 0)) k 0 ≡ use_from rs (k + 1) (get_or rs k 0)
    linked k f g = go (cases_eq k p)
      where
        go : (k ≡ p) ⊎ (k ≡ p → ⊥) → get_or (set after p (get_or next b 0)) k 0 ≡ use_from rs (k + 1) (get_or rs k 0)
        go (inl i) = rw (i, e) (get_or-set_same after p (get_or next b 0) 0 q ∙ h.told b m)
        go (inr i) = get_or-set_other after p k (get_or next b 0) 0 i ∙ h.linked k (omega arith) g

pub one_less : (rs : List ℕ) (p b : ℕ) (next after : List ℕ) → Indexes rs p next after → p < length rs → get_or rs p 0 ≡ b → b < 1024 → length next ≡ 1024 →
    Indexes rs (p + 1) (set next b (get_or after p 0)) after
one_less rs p b next after h l e m n = record { told = told; linked = λ k f g. h.linked k (omega arith) g }
  where
    told : (c : ℕ) → c < 1024 → get_or (set next b (get_or after p 0)) c 0 ≡ use_from rs (p + 1) c
    told c k = go (cases_eq c b)
      where
        go : (c ≡ b) ⊎ (c ≡ b → ⊥) → get_or (set next b (get_or after p 0)) c 0 ≡ use_from rs (p + 1) c
        go (inl i) = rw (i, get_or-set_same next b (get_or after p 0) 0 (omega arith)) (rw (← e) (h.linked p (omega arith) l))
        go (inr i) = get_or-set_other next b c (get_or after p 0) 0 i ∙ (h.told c k ∙ use_later rs p c l (λ f. i (sym f ∙ e)))
