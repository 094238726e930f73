-- How a box was served, by what each call says.
use Rattle.std.proofs.Common.{◌≡◌, ◌≢◌, refl, subst, arith, ℕ, ℤ, List, Option, Some, None, inl, inr, ◌≤◌}
use Rattle.std.specs.Prelude.{◌⊎◌}
use Rattle.std.specs.Io.KnownBytes.{IsAtEnd}
use Rattle.tap_rows.specs.declared.tables.Tables.{Tables}
use Rattle.tap_top.specs.Premises.{IfKnown}
use Rattle.pop_session.specs.declared.letter.Letter.{Letter}
use Rattle.pop_session.specs.Ends.{IsSession, LettersEnd, IsSessionUpToDate}
use Rattle.peer_edges.specs.Asks.{AskedOnlyWhen}
use Rattle.peer_edges.proofs.Asks.{asked_as}
use Rattle.pop_box.specs.Prompt.{IsBoxUpToDate, AskedUpToDate}
use Rattle.pop_box.specs.Letters.{letters_in}
use Rattle.pop_box.specs.Served.{BoxLine, BoxServed, LettersServed, IsUnserved, Served, TookQuit}

-- nothing was served, and nothing written
pub unserved :
    (status : ℕ) (found : Option (List Letter)) (user secret : List ℕ) (left left' out out' : Option (List ℕ)) (versions : ℤ → Type 0)
    → IsUnserved status → (status ≡ 4 → ⊥) → left' ≡ left → out' ≡ out
    → Served status found user secret left left' out out' versions
unserved status found user secret left left' out out' versions is four unread silent = record {
  unread = λ _. unread;
  silent = λ _. silent;
  served = λ _. inl is;
  put = λ e. absurd (four e);
}

-- the store was refused
pub refused :
    (status : ℕ) (found : Option (List Letter)) (user secret : List ℕ) (left left' out out' : Option (List ℕ)) (versions : ℤ → Type 0)
    → (status ≡ 6) ⊎ (status ≡ 4) → left' ≡ left → IfKnown versions ⊥ → Served status found user secret left left' out out' versions
refused status found user secret left left' out out' versions is unread never = record {
  unread = λ _. unread;
  silent = λ quiet. absurd (loud is quiet);
  served = λ four. inl (six is four);
  put = λ _ v version known. absurd (never v version known);
} where
  loud : (status ≡ 6) ⊎ (status ≡ 4) → (status ≡ 2) ⊎ ((status ≡ 5) ⊎ (status ≡ 7)) → ⊥
  loud is quiet = grind (arith, is, quiet)

  six : (status ≡ 6) ⊎ (status ≡ 4) → status ≢ 4 → IsUnserved status
  six (inl e) four = inr (inr (inl e))
  six (inr e) four = absurd (four e)

-- the box was served
pub box-served :
    (status : ℕ) (found : Option (List Letter)) (user secret : List ℕ) (left left' out out' : Option (List ℕ)) (versions : ℤ → Type 0)
    → (IsUnserved status → ⊥) → BoxServed status found user secret left left' out out'
    → Served status found user secret left left' out out' versions
box-served status found user secret left left' out out' versions not box = record {
  unread = λ is. absurd (not is);
  silent = λ is. absurd (not (quiet is));
  served = λ _. inr box;
  put = λ _ v version known. box;
} where
  quiet : (status ≡ 2) ⊎ ((status ≡ 5) ⊎ (status ≡ 7)) → IsUnserved status
  quiet (inl e) = inl e
  quiet (inr (inl e)) = inr (inl e)
  quiet (inr (inr e)) = inr (inr (inr e))

pub session-serves : (status : ℕ) → IsSession status → IsUnserved status → ⊥
session-serves status session is = grind (arith, session, is)

pub line-serves : (status : ℕ) → (status ≡ 9) ⊎ (status ≡ 4) → IsUnserved status → ⊥
line-serves status line is = grind (arith, line, is)

-- over the letters of the box
pub letters-served :
    (status : ℕ) (letters : List Letter) (found : Option (List Letter)) (user secret : List ℕ) (left left' out out' : Option (List ℕ))
    → Some letters ≡ found → IsSession status → LettersEnd status user secret letters left left' out out'
    → LettersServed status found user secret left left' out out'
letters-served status letters found user secret left left' out out' is session ends =
    subst (λ f. LettersServed status f user secret left left' out out') is (inr (session, ends))

-- without such a box
pub none-served : (status : ℕ) (found : Option (List Letter)) (user secret : List ℕ) (left left' out out' : Option (List ℕ))
    → None ≡ found → (status ≡ 9) ⊎ (status ≡ 4) → left' ≡ left → BoxLine status out out'
    → LettersServed status found user secret left left' out out'
none-served status found user secret left left' out out' is statuses unread line =
    subst (λ f. LettersServed status f user secret left left' out out') is
    (inr (record { statuses = statuses; unread = unread; line = line }))

-- over the letters of the box of this user and name
pub letters-served-as : (status : ℕ) (letters letters' : List Letter) (t : Tables) (user user' name name' secret secret' : List ℕ)
    (left left' out out' : Option (List ℕ))
    → user ≡ user' → name ≡ name' → secret ≡ secret' → letters' ≡ letters
    → Some letters ≡ letters_in user name t → IsSession status → LettersEnd status user secret letters' left left' out out'
    → LettersServed status (letters_in user' name' t) user' secret' left left' out out'
letters-served-as status letters letters' t user user' name name' secret secret' left left' out out' u n s same is session ends =
    subst (λ x. LettersServed status (letters_in user' name' t) user' x left left' out out') s
    (subst (λ x. LettersServed status (letters_in user' x t) user' secret left left' out out') n
    (subst (λ x. LettersServed status (letters_in x name t) x secret left left' out out') u
    (letters-served status letters (letters_in user name t) user secret left left' out out' is session
    (subst (λ x. LettersEnd status user secret x left left' out out') same ends))))

-- without a box of this user and name
pub none-served-as : (status : ℕ) (t : Tables) (user user' name name' secret : List ℕ) (left out out' : Option (List ℕ))
    → user ≡ user' → name ≡ name'
    → None ≡ letters_in user name t → (status ≡ 9) ⊎ (status ≡ 4) → BoxLine status out out'
    → LettersServed status (letters_in user' name' t) user' secret left left out out'
none-served-as status t user user' name name' secret left out out' u n is statuses line =
    subst (λ x. LettersServed status (letters_in user' x t) user' secret left left out out') n
    (subst (λ x. LettersServed status (letters_in x name t) x secret left left out out') u
    (none-served status (letters_in user name t) user secret left left out out' is statuses refl line))

box-serves : (status : ℕ) (found : Option (List Letter)) (user secret : List ℕ) (left left' out out' : Option (List ℕ))
    → BoxServed status found user secret left left' out out' → IsUnserved status → ⊥
box-serves status None user secret left left' out out' box is = line-serves status box.statuses is
box-serves status (Some letters) user secret left left' out out' box is = session-serves status box.0 is

-- the box was served, or memory ran out
pub served :
    (status : ℕ) (found : Option (List Letter)) (user secret : List ℕ) (left left' out out' : Option (List ℕ)) (versions : ℤ → Type 0)
    → LettersServed status found user secret left left' out out'
    → Served status found user secret left left' out out' versions
served status found user secret left left' out out' versions (inl (e, same)) =
    unserved status found user secret left left' out out' versions (inr (inr (inr e))) (λ four. not e four) same.0 same.1 where
      not : status ≡ 7 → status ≡ 4 → ⊥
      not a b = omega (arith, a, b)
served status found user secret left left' out out' versions (inr box) =
    box-served status found user secret left left' out out' versions (box-serves status found user secret left left' out out' box) box

-- the words' own user, box and secret
pub served-words : (status : ℕ) (t : Tables) (user user' name name' secret secret' : List ℕ) (left left' out out' : Option (List ℕ))
    (versions : ℤ → Type 0)
    → user ≡ user' → name ≡ name' → secret ≡ secret'
    → Served status (letters_in user name t) user secret left left' out out' versions
    → Served status (letters_in user' name' t) user' secret' left left' out out' versions
served-words status t user user' name name' secret secret' left left' out out' versions u n s served =
    subst (λ x. Served status (letters_in user' name' t) user' x left left' out out' versions) s
    (subst (λ x. Served status (letters_in user' x t) user' secret left left' out out' versions) n
    (subst (λ x. Served status (letters_in x name t) x secret left left' out out' versions) u served))

-- a session that ended by QUIT took one, and one that ended with the input is at its end
pub took-quit : (status : ℕ) (letters : List Letter) (user user' secret secret' : List ℕ) (left left' out out' : Option (List ℕ))
    → user ≡ user' → secret ≡ secret' → LettersEnd status user secret letters left left' out out' → status ≡ 0
    → TookQuit user' secret' left left'
took-quit status letters user user' secret secret' left left' out out' u s ends is =
    let quit = ends.quit is in
    subst (λ x. TookQuit user' x left left') s
    (subst (λ x. TookQuit x secret left left') u (record { taken = quit.taken; quit = quit.quit }))

-- a QUIT of the words' own user and secret
pub took-quit-words : (status : ℕ) (user user' secret secret' : List ℕ) (left left' : Option (List ℕ))
    → user ≡ user' → secret ≡ secret' → (status ≡ 0 → TookQuit user secret left left') → status ≡ 0
    → TookQuit user' secret' left left'
took-quit-words status user user' secret secret' left left' u s quit is =
    subst (λ x. TookQuit user' x left left') s (subst (λ x. TookQuit x secret left left') u (quit is))

pub at-end : (status : ℕ) (letters : List Letter) (user secret : List ℕ) (left left' out out' : Option (List ℕ))
    → LettersEnd status user secret letters left left' out out' → status ≡ 1 → IsAtEnd left'
at-end status letters user secret left left' out out' ends is = (ends.ended is).1

pub served-not-two : (status : ℕ) → IsSession status ⊎ ((status ≡ 7) ⊎ (status ≡ 9)) → status ≡ 2 → ⊥
served-not-two status one is = grind (arith, one, is)

up-as : (letters letters' : List Letter) (found : Option (List Letter)) (user secret : List ℕ) (left left' out out' : Option (List ℕ))
    → letters' ≡ letters → Some letters ≡ found → IsSessionUpToDate user secret letters' left left' out out'
    → IsBoxUpToDate found user secret left left' out out'
up-as letters letters' found user secret left left' out out' same is now =
    subst (λ f. IsBoxUpToDate f user secret left left' out out') is
    (subst (λ x. IsSessionUpToDate user secret x left left' out out') same now)

-- when the source was asked, with the words' own user, box and secret
pub asked-words : (t : Tables) (user user' name name' secret secret' : List ℕ) (left out : Option (List ℕ))
    (asked asked' : Option (List ℕ) → Option (List ℕ) → Type 0)
    → user ≡ user' → name ≡ name' → secret ≡ secret'
    → AskedUpToDate (letters_in user name t) user secret left out asked asked'
    → AskedUpToDate (letters_in user' name' t) user' secret' left out asked asked'
asked-words t user user' name name' secret secret' left out asked asked' u n s asks =
    subst (λ x. AskedUpToDate (letters_in user' name' t) user' x left out asked asked') s
    (subst (λ x. AskedUpToDate (letters_in user' x t) user' secret left out asked asked') n
    (subst (λ x. AskedUpToDate (letters_in x name t) x secret left out asked asked') u asks))

-- when it was asked, over the letters of the box of this user and name
pub asked-letters : (letters letters' : List Letter) (t : Tables) (user user' name name' secret secret' : List ℕ)
    (left out : Option (List ℕ)) (asked asked' : Option (List ℕ) → Option (List ℕ) → Type 0)
    → user ≡ user' → name ≡ name' → secret ≡ secret' → letters' ≡ letters → Some letters ≡ letters_in user name t
    → AskedOnlyWhen (λ l o. IsSessionUpToDate user secret letters' left l out o) asked asked'
    → AskedUpToDate (letters_in user' name' t) user' secret' left out asked asked'
asked-letters letters letters' t user user' name name' secret secret' left out asked asked' u n s same is asks =
    asked-words t user user' name name' secret secret' left out asked asked' u n s
    (asked_as (λ l o. IsSessionUpToDate user secret letters' left l out o)
    (λ l o. IsBoxUpToDate (letters_in user name t) user secret left l out o) asked asked'
    (λ l o now. up-as letters letters' (letters_in user name t) user secret left l out o same is now) asks)
