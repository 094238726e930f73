-- The command takes well worded words, and finds in them what they name.
use Rattle.std.proofs.Common.{◌≡◌, ℕ, List, [], ◌∷◌, codes, true, false, refl, Option, Some, None, pos, ◌==◌}
use Rattle.std.specs.Str.{bytes_eq}
use Rattle.clap.specs.ValueTests.{is_signed_in}
use Rattle.clap.specs.Lexer.{long_of, short_of}
use Rattle.clap.specs.Words.{takes, is_simple, is_simple_and_free, first_of}
use Rattle.clap.specs.Simple.{matches_of}
use Rattle.clap.proofs.OnLiterals.{clap_on_literals}
use Rattle.command_words.specs.Options.{app, default_path}

pub is_simple_app : is_simple app ≡ true
unfolding clap_on_literals
is_simple_app = refl

pub is_free : is_simple_and_free app ≡ true
unfolding clap_on_literals
is_free = refl

-- the words are taken, and these are the values of the two options
pub record Asks (words : List (List ℕ)) (store sample : Option (List ℕ)) : Type 0 where
  pub taken : takes app words ≡ true
  pub stored : first_of (codes "store") (matches_of app words) ≡ store
  pub sampled : first_of (codes "sample") (matches_of app words) ≡ sample

-- a word that is neither a flag nor `--`
pub record IsPlainWord (w : List ℕ) : Type 0 where
  pub long : long_of w ≡ None
  pub short : short_of w ≡ None
  pub end : bytes_eq w (45 ∷ 45 ∷ []) ≡ false

pub plain_from_head : (b : ℕ) (w : List ℕ) → (b == 45) ≡ false → IsPlainWord (b ∷ w)
plain_from_head b w other = record { long = rw other refl; short = rw other refl; end = rw other refl }

-- a word that the option `--sample` takes
pub record IsCountWord (w : List ℕ) : Type 0 where
  pub plain : IsPlainWord w
  pub within : is_signed_in (pos 1) (pos 100000) w ≡ true

pub none_asks : Asks [] (Some default_path) None
unfolding clap_on_literals
none_asks = record { taken = refl; stored = refl; sampled = refl }

pub store_asks : (p : List ℕ) → IsPlainWord p → Asks (codes "--store" ∷ p ∷ []) (Some p) None
unfolding clap_on_literals
store_asks p q = record {
  taken = rw (q.long, q.short, q.end) refl;
  stored = rw (q.long, q.short, q.end) refl;
  sampled = rw (q.long, q.short, q.end) refl;
}

pub sample_asks : (w : List ℕ) → IsCountWord w → Asks (codes "--sample" ∷ w ∷ []) (Some default_path) (Some w)
unfolding clap_on_literals
sample_asks w q = record {
  taken = rw (q.plain.long, q.plain.short, q.plain.end, q.within) refl;
  stored = rw (q.plain.long, q.plain.short, q.plain.end) refl;
  sampled = rw (q.plain.long, q.plain.short, q.plain.end) refl;
}

pub store_sample_asks : (p w : List ℕ) → IsPlainWord p → IsCountWord w
    → Asks (codes "--store" ∷ p ∷ codes "--sample" ∷ w ∷ []) (Some p) (Some w)
unfolding clap_on_literals
store_sample_asks p w s q = record {
  taken = rw (s.long, s.short, s.end, q.plain.long, q.plain.short, q.plain.end, q.within) refl;
  stored = rw (s.long, s.short, s.end, q.plain.long, q.plain.short, q.plain.end) refl;
  sampled = rw (s.long, s.short, s.end, q.plain.long, q.plain.short, q.plain.end) refl;
}

pub sample_store_asks : (p w : List ℕ) → IsPlainWord p → IsCountWord w
    → Asks (codes "--sample" ∷ w ∷ codes "--store" ∷ p ∷ []) (Some p) (Some w)
unfolding clap_on_literals
sample_store_asks p w s q = record {
  taken = rw (q.plain.long, q.plain.short, q.plain.end, s.long, s.short, s.end, q.within) refl;
  stored = rw (q.plain.long, q.plain.short, q.plain.end, s.long, s.short, s.end) refl;
  sampled = rw (q.plain.long, q.plain.short, q.plain.end, s.long, s.short, s.end) refl;
}
