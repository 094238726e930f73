-- Well worded words are taken, and ask for what they name.
use Rattle.std.proofs.Common.{◌≡◌, inl, inr, ℕ, List, [], ◌∷◌, ◌++◌, true, refl, Option, Some, None, ap, ◌∙◌, sym, subst}
use Rattle.std.specs.Prelude.{unwrap_or, option_and_then}
use Rattle.std.specs.Fmt.{decimal}
use Rattle.std.proofs.lemmas.Bool.{not-true}
use Rattle.clap.specs.Words.{takes}
use Rattle.command_words.specs.Options.{app, default_path}
use Rattle.command_words.specs.Words.{number_in, path_in, sample_in}
use Rattle.command_words.specs.WellWorded.{is_path, IsPathOrNone, IsNumberOrNone, store_words, sample_words, IsWellWorded, path_or_default}
use Rattle.command_words.proofs.Taken.{Asks, IsPlainWord, plain_from_head, none_asks, store_asks, sample_asks, store_sample_asks}
use Rattle.command_words.proofs.Taken.{sample_store_asks}
use Rattle.command_words.proofs.Numbers.{number_word}

-- the words are taken, and ask for this path and for this number
pub record IsAsked (words : List (List ℕ)) (path : Option (List ℕ)) (number : Option ℕ) : Type 0 where
  pub taken : takes app words ≡ true
  pub place : path_in words ≡ path_or_default path
  pub sample : sample_in words ≡ number

pub plain_path : (p : List ℕ) → is_path p ≡ true → IsPlainWord p
plain_path [] q = absurd (cc)
plain_path (b ∷ p) q = plain_from_head b p (not-true _ q)

given : (words : List (List ℕ)) (path : Option (List ℕ)) (number : Option ℕ) (text : Option (List ℕ))
    → Asks words (Some (path_or_default path)) text → option_and_then number_in text ≡ number
    → IsAsked words path number
given words path number text a n = record {
  taken = a.taken;
  place = ap (λ (o : Option (List ℕ)). unwrap_or o default_path) a.stored;
  sample = ap (option_and_then number_in) a.sampled ∙ n;
}

store_first : (path : Option (List ℕ)) (number : Option ℕ) → IsPathOrNone path → IsNumberOrNone number
    → IsAsked (store_words path ++ sample_words number) path number
store_first None None p n = given _ None None None none_asks refl
store_first (Some path) None p n = given _ (Some path) None None (store_asks path (plain_path path p)) refl
store_first None (Some number) p n =
    let w = number_word number n.0 n.1 in
    given _ None (Some number) (Some (decimal number)) (sample_asks (decimal number) w.count) w.number
store_first (Some path) (Some number) p n =
    let w = number_word number n.0 n.1 in
    given _ (Some path) (Some number) (Some (decimal number)) (store_sample_asks path (decimal number) (plain_path path p) w.count) w.number

sample_first : (path : Option (List ℕ)) (number : Option ℕ) → IsPathOrNone path → IsNumberOrNone number
    → IsAsked (sample_words number ++ store_words path) path number
sample_first None None p n = given _ None None None none_asks refl
sample_first (Some path) None p n = given _ (Some path) None None (store_asks path (plain_path path p)) refl
sample_first None (Some number) p n =
    let w = number_word number n.0 n.1 in
    given _ None (Some number) (Some (decimal number)) (sample_asks (decimal number) w.count) w.number
sample_first (Some path) (Some number) p n =
    let w = number_word number n.0 n.1 in
    given _ (Some path) (Some number) (Some (decimal number)) (sample_store_asks path (decimal number) (plain_path path p) w.count) w.number

pub worded : (words : List (List ℕ)) (path : Option (List ℕ)) (number : Option ℕ) → IsWellWorded words path number
    → IsAsked words path number
worded words path number w = elim w.order [
  | inl e ↦ subst (λ (ws : List (List ℕ)). IsAsked ws path number) (sym e) (store_first path number w.named_path w.named_number)
  | inr e ↦ subst (λ (ws : List (List ℕ)). IsAsked ws path number) (sym e) (sample_first path number w.named_path w.named_number)
]
