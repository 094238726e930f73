-- A session over the pieces of a source, and each end of it.
use Rattle.std.proofs.Common.{◌≡◌, ◌∙◌, sym, ap, refl, subst, arith, ℕ, List, [], ◌∷◌, ◌++◌, ◌+◌, ◌-◌, length, take, drop, Bool, true}
use Rattle.std.proofs.Common.{false, Option, Some, None, ◌≤◌, ◌<◌}
use Rattle.std.specs.Prelude.{min}
use Rattle.std.specs.Io.KnownBytes.{Consumes, Appends, IsAtEnd, Keeps}
use Rattle.std.proofs.lemmas.List.{append_assoc, append-nil, length-append, take_all, take-append-drop}
use Rattle.std.proofs.Math.Seq.{take-append-add}
use Rattle.std.proofs.lemmas.Grind.{common_steps}
use Rattle.tap_edges.specs.declared.edges.PutFailed.{PutFailed}
use Rattle.tap_edges.specs.Puts.{TookSome}
use Rattle.tap_edges.proofs.Puts.{Appends-more, Appends-none}
use Rattle.peer_edges.specs.Asks.{AskedOnlyWhen}
use Rattle.peer_edges.proofs.Asks.{asked_more, asked_as}
use Rattle.pop_session.specs.declared.hold.TheConstants.{SESSION_LIMIT}
use Rattle.tap_edges.specs.declared.pieces.TheConstants.{PIECE}
use Rattle.pop_session.specs.Replies.{greeting}
use Rattle.pop_session.specs.Requests.{requests}
use Rattle.pop_session.specs.Sessions.{PopSessionState, replies_from, quits_from, replies_to, phase_after, is_ended}
use Rattle.pop_session.specs.Laws.{RepliesGrow}
use Rattle.pop_session.specs.declared.outcome.Phase.TheVariants.{Authorization}
use Rattle.pop_session.specs.Ends.{TookBytes, PassedSessionLimit, QuitEnd, OpenEnd, LongEnd, PutEnd, SessionEnds}

-- the bytes taken so far
pub record Taking (left left' : Option (List ℕ)) (taken : ℕ) : Type 0 where
  pub bytes : List ℕ
  pub consumed : Consumes left left' bytes
  pub count : taken ≡ length bytes

Consumes-more : (a b c : Option (List ℕ)) (xs ys : List ℕ) → Consumes a b xs → Consumes b c ys → Consumes a c (xs ++ ys)
Consumes-more None b c xs ys one two = tt
Consumes-more (Some us) (Some vs) (Some ws) xs ys one two = one ∙ ap (λ zs. xs ++ zs) two ∙ sym (append_assoc xs ys ws)
Consumes-more (Some us) None c xs ys one two = absurd one
Consumes-more (Some us) (Some vs) None xs ys one two = absurd two

Consumes-none : (a : Option (List ℕ)) → Consumes a a []
Consumes-none None = tt
Consumes-none (Some xs) = refl

Consumes-keeps : (a b c : Option (List ℕ)) (xs : List ℕ) → Consumes a b xs → Keeps b c → Consumes a c xs
Consumes-keeps None b c xs one same = tt
Consumes-keeps (Some us) (Some vs) (Some ws) xs one same = one ∙ ap (λ zs. xs ++ zs) (sym same)
Consumes-keeps (Some us) None c xs one same = absurd one
Consumes-keeps (Some us) (Some vs) None xs one same = absurd same

pub Taking-start : (left : Option (List ℕ)) → Taking left left 0
Taking-start left = record { bytes = []; consumed = Consumes-none left; count = refl }

pub Taking-more : (left mid new : Option (List ℕ)) (taken n : ℕ) (piece : List ℕ)
    → Taking left mid taken → n ≤ length piece → Consumes mid new (take n piece) → Taking left new (taken + n)
Taking-more left mid new taken n piece before within took = record {
  bytes = before.bytes ++ take n piece;
  consumed = Consumes-more left mid new before.bytes (take n piece) before.consumed took;
  count = longer before.bytes before.count;
} where
  longer : (bytes : List ℕ) → taken ≡ length bytes → taken + n ≡ length (bytes ++ take n piece)
  longer bytes e = grind (arith, common_steps)

take-none : (n : ℕ) → ◌≡◌ {A = List ℕ} (take n []) []
take-none n = grind (arith, common_steps)

-- the bytes that a session looks at, of those taken so far and the next piece
fits : (limit : ℕ) (bytes piece : List ℕ) (n room : ℕ)
    → length bytes ≤ limit → room ≡ min n (limit - length bytes) → take limit (bytes ++ take n piece) ≡ bytes ++ take room piece
fits limit bytes piece n room le is =
    ap (λ k. take k (bytes ++ take n piece)) (whole (length bytes) le) ∙ take-append-add bytes (take n piece) (limit - length bytes)
    ∙ ap (λ xs. bytes ++ xs) (two (limit - length bytes) n piece ∙ ap (λ k. take k piece) (sym is)) where
      whole : (m : ℕ) → m ≤ limit → limit ≡ m + (limit - m)
      whole m le = omega arith

      two : (k n : ℕ) (xs : List ℕ) → take k (take n xs) ≡ take (min n k) xs
      two k n xs = grind (arith, common_steps)

-- the session so far: the bytes taken, the replies to those that a session looks at, and that none of them is an accepted QUIT;
-- f and q give the replies, and whether a QUIT is accepted, from the beginning, and g and p from here on
pub record Answering (left left' : Option (List ℕ)) (taken : ℕ) (f g : List ℕ → List ℕ) (q p : List ℕ → Bool) (out out' : Option (List ℕ)) :
    Type 0 where
  pub taking : Taking left left' taken
  pub replied : (rest : List ℕ) → f (take SESSION_LIMIT taking.bytes ++ rest) ≡ f (take SESSION_LIMIT taking.bytes) ++ g rest
  pub quits : (rest : List ℕ) → q (take SESSION_LIMIT taking.bytes ++ rest) ≡ p rest
  pub no_quit : q (take SESSION_LIMIT taking.bytes) ≡ false
  pub written : Appends out out' (f (take SESSION_LIMIT taking.bytes))

-- the same, over the bytes seen
record Seen (seen : List ℕ) (f g : List ℕ → List ℕ) (q p : List ℕ → Bool) (out out' : Option (List ℕ)) : Type 0 where
  replied : (rest : List ℕ) → f (seen ++ rest) ≡ f seen ++ g rest
  quits : (rest : List ℕ) → q (seen ++ rest) ≡ p rest
  no_quit : q seen ≡ false
  written : Appends out out' (f seen)

seen-now : (left left' : Option (List ℕ)) (taken : ℕ) (f g : List ℕ → List ℕ) (q p : List ℕ → Bool) (out out' : Option (List ℕ))
    → (a : Answering left left' taken f g q p out out') → taken ≤ SESSION_LIMIT → Seen a.taking.bytes f g q p out out'
seen-now left left' taken f g q p out out' a le =
    subst (λ xs. Seen xs f g q p out out') (take_all SESSION_LIMIT a.taking.bytes (subst (λ n. n ≤ SESSION_LIMIT) a.taking.count le))
    (record { replied = a.replied; quits = a.quits; no_quit = a.no_quit; written = a.written })

answering : (left left' : Option (List ℕ)) (taken : ℕ) (f g : List ℕ → List ℕ) (q p : List ℕ → Bool) (out out' : Option (List ℕ))
    → (t : Taking left left' taken) → (seen : List ℕ) → take SESSION_LIMIT t.bytes ≡ seen → Seen seen f g q p out out'
    → Answering left left' taken f g q p out out'
answering left left' taken f g q p out out' t seen is s =
    let now = subst (λ xs. Seen xs f g q p out out') (sym is) s in
    record { taking = t; replied = now.replied; quits = now.quits; no_quit = now.no_quit; written = now.written }

pub Answering-start : (left out : Option (List ℕ)) (f : List ℕ → List ℕ) (q : List ℕ → Bool)
    → f [] ≡ [] → q [] ≡ false → Answering left left 0 f f q q out out
unfolding Taking-start
Answering-start left out f q none no_quit =
    answering left left 0 f f q q out out (Taking-start left) [] (take-none SESSION_LIMIT)
    (record {
      replied = λ rest. ap (λ xs. xs ++ f rest) (sym none);
      quits = λ rest. refl;
      no_quit = no_quit;
      written = subst (Appends out out) (sym none) (Appends-none out);
    })

-- replies to bytes, and to some after them
joined : (f g h : List ℕ → List ℕ) (a b : List ℕ)
    → ((rest : List ℕ) → f (a ++ rest) ≡ f a ++ g rest) → ((rest : List ℕ) → g (b ++ rest) ≡ g b ++ h rest) → (rest : List ℕ)
    → f ((a ++ b) ++ rest) ≡ f (a ++ b) ++ h rest
joined f g h a b one two rest =
    ap f (append_assoc a b rest) ∙ one (b ++ rest) ∙ ap (λ xs. f a ++ xs) (two rest) ∙ sym (append_assoc (f a) (g b) (h rest))
    ∙ ap (λ xs. xs ++ h rest) (sym (one b))

-- the bytes that the session looks at, with one more piece
looked : (left left' : Option (List ℕ)) (taken n room : ℕ) (piece : List ℕ)
    → (t : Taking left left' taken) → taken ≤ SESSION_LIMIT → room ≡ min n (SESSION_LIMIT - taken)
    → take SESSION_LIMIT (t.bytes ++ take n piece) ≡ t.bytes ++ take room piece
looked left left' taken n room piece t le is =
    fits SESSION_LIMIT t.bytes piece n room (subst (λ k. k ≤ SESSION_LIMIT) t.count le) (is ∙ ap (λ k. min n (SESSION_LIMIT - k)) t.count)

taken-of : (left left' : Option (List ℕ)) (taken : ℕ) → Taking left left' taken → taken ≤ SESSION_LIMIT + PIECE → TookBytes left left'
taken-of left left' taken t few = record { bytes = t.bytes; taken = t.consumed; few = subst (λ n. n ≤ SESSION_LIMIT + PIECE) t.count few }

pub few-taken : (taken n : ℕ) → taken ≤ SESSION_LIMIT → n ≤ PIECE → taken + n ≤ SESSION_LIMIT + PIECE
few-taken taken n le within = omega arith

few-now : (taken : ℕ) → taken ≤ SESSION_LIMIT → taken ≤ SESSION_LIMIT + PIECE
few-now taken le = omega arith

-- a piece is what the session looks at and what it doesn't
piece-split : (n room : ℕ) (piece : List ℕ) → room ≤ n → take n piece ≡ take room piece ++ drop room (take n piece)
piece-split n room piece le = sym (take-append-drop room (take n piece))
    ∙ ap (λ xs. xs ++ drop room (take n piece)) (shorter n room piece le) where
      shorter : (n k : ℕ) (xs : List ℕ) → k ≤ n → take k (take n xs) ≡ take k xs
      shorter n k xs le = grind (arith, common_steps)

room-le : (n k room : ℕ) → room ≡ min n k → room ≤ n
room-le n k room is = grind (arith, is)

-- the piece was answered
pub Answering-more : (left mid new : Option (List ℕ)) (taken n room : ℕ) (piece : List ℕ) (f g h : List ℕ → List ℕ) (q p r : List ℕ → Bool)
    (out out1 out2 : Option (List ℕ))
    → Answering left mid taken f g q p out out1 → taken ≤ SESSION_LIMIT → n ≤ length piece
    → Consumes mid new (take n piece) → room ≡ min n (SESSION_LIMIT - taken) → Appends out1 out2 (g (take room piece))
    → ((rest : List ℕ) → g (take room piece ++ rest) ≡ g (take room piece) ++ h rest)
    → ((rest : List ℕ) → p (take room piece ++ rest) ≡ r rest) → (b : Bool) → b ≡ false → b ≡ p (take room piece)
    → Answering left new (taken + n) f h q r out out2
unfolding Taking-more
Answering-more left mid new taken n room piece f g h q p r out out1 out2 before le within took is put next quits b none no_quit =
    let s = seen-now left mid taken f g q p out out1 before le in
    let bytes = before.taking.bytes in
    answering left new (taken + n) f h q r out out2 (Taking-more left mid new taken n piece before.taking within took)
    (bytes ++ take room piece) (looked left mid taken n room piece before.taking le is)
    (record {
      replied = joined f g h bytes (take room piece) s.replied next;
      quits = λ rest. ap q (append_assoc bytes (take room piece) rest) ∙ s.quits (take room piece ++ rest) ∙ quits rest;
      no_quit = s.quits (take room piece) ∙ sym no_quit ∙ none;
      written = subst (Appends out out2) (sym (s.replied (take room piece)))
          (Appends-more out out1 out2 (f bytes) (g (take room piece)) s.written put);
    })

-- status 0
pub Answering-quit : (left mid new : Option (List ℕ)) (taken n room : ℕ) (piece : List ℕ) (f g h : List ℕ → List ℕ) (q p : List ℕ → Bool)
    (out out1 out2 : Option (List ℕ))
    → Answering left mid taken f g q p out out1 → taken ≤ SESSION_LIMIT → n ≤ length piece
    → n ≤ PIECE → Consumes mid new (take n piece) → room ≡ min n (SESSION_LIMIT - taken) → Appends out1 out2 (g (take room piece))
    → ((rest : List ℕ) → g (take room piece ++ rest) ≡ g (take room piece) ++ h rest)
    → ((rest : List ℕ) → h rest ≡ []) → (b : Bool) → b ≡ true → b ≡ p (take room piece) → QuitEnd f q left new out out2
unfolding Taking-more taken-of
Answering-quit left mid new taken n room piece f g h q p out out1 out2 before le within few took is put next over b one quit =
    let s = seen-now left mid taken f g q p out out1 before le in
    let bytes = before.taking.bytes in
    let beyond = drop room (take n piece) in
    let all : bytes ++ take n piece ≡ (bytes ++ take room piece) ++ beyond =
    ap (λ xs. bytes ++ xs) (piece-split n room piece (room-le n (SESSION_LIMIT - taken) room is))
    ∙ sym (append_assoc bytes (take room piece) beyond) in
    let none : f ((bytes ++ take room piece) ++ beyond) ≡ f bytes ++ g (take room piece) =
    joined f g h bytes (take room piece) s.replied next beyond ∙ ap (λ xs. f (bytes ++ take room piece) ++ xs) (over beyond)
    ∙ append-nil (f (bytes ++ take room piece)) ∙ s.replied (take room piece) in
    record {
      taken = taken-of left new (taken + n) (Taking-more left mid new taken n piece before.taking within took) (few-taken taken n le few);
      quit = ap q (looked left mid taken n room piece before.taking le is) ∙ s.quits (take room piece) ∙ sym quit ∙ one;
      written = subst (Appends out out2) (sym (ap f all ∙ none)) (Appends-more out out1 out2 (f bytes) (g (take room piece)) s.written put);
    }

-- status 3
pub Answering-read : (left mid new : Option (List ℕ)) (taken : ℕ) (f g : List ℕ → List ℕ) (q p : List ℕ → Bool) (out out1 : Option (List ℕ))
    → Answering left mid taken f g q p out out1 → taken ≤ SESSION_LIMIT → Keeps mid new → OpenEnd f q left new out out1
Answering-read left mid new taken f g q p out out1 before le same =
    let s = seen-now left mid taken f g q p out out1 before le in
    let fits : length before.taking.bytes ≤ SESSION_LIMIT = subst (λ n. n ≤ SESSION_LIMIT) before.taking.count le in
    record {
      taken = record {
        bytes = before.taking.bytes;
        taken = Consumes-keeps left mid new before.taking.bytes before.taking.consumed same;
        few = few-now (length before.taking.bytes) fits;
      };
      fits = fits;
      no_quit = s.no_quit;
      written = s.written;
    }

Keeps-same : (a : Option (List ℕ)) → Keeps a a
Keeps-same None = tt
Keeps-same (Some xs) = refl

-- the source is asked once more
pub Answering-asked : (left mid : Option (List ℕ)) (taken : ℕ) (f g : List ℕ → List ℕ) (q p : List ℕ → Bool) (out out1 : Option (List ℕ))
    (asked before asked' : Option (List ℕ) → Option (List ℕ) → Type 0)
    → AskedOnlyWhen (λ l o. OpenEnd f q left l out o) asked before → Answering left mid taken f g q p out out1 → taken ≤ SESSION_LIMIT
    → AskedOnlyWhen (λ l o. (l ≡ mid) × (o ≡ out1)) before asked' → AskedOnlyWhen (λ l o. OpenEnd f q left l out o) asked asked'
Answering-asked left mid taken f g q p out out1 asked before asked' so_far now le once =
    asked_more (λ l o. OpenEnd f q left l out o) mid out1 asked before asked' so_far
    (Answering-read left mid mid taken f g q p out out1 now le (Keeps-same mid)) once

-- status 1
pub Answering-end : (left mid new : Option (List ℕ)) (taken : ℕ) (f g : List ℕ → List ℕ) (q p : List ℕ → Bool) (out out1 : Option (List ℕ))
    → Answering left mid taken f g q p out out1 → taken ≤ SESSION_LIMIT → Consumes mid new [] → OpenEnd f q left new out out1
Answering-end left mid new taken f g q p out out1 before le took =
    let s = seen-now left mid taken f g q p out out1 before le in
    let fits : length before.taking.bytes ≤ SESSION_LIMIT = subst (λ n. n ≤ SESSION_LIMIT) before.taking.count le in
    record {
      taken = record {
        bytes = before.taking.bytes;
        taken = subst (Consumes left new) (append-nil before.taking.bytes) (Consumes-more left
            mid new before.taking.bytes [] before.taking.consumed took);
        few = few-now (length before.taking.bytes) fits;
      };
      fits = fits;
      no_quit = s.no_quit;
      written = s.written;
    }

-- a read of no bytes
pub none-taken : (a b : Option (List ℕ)) (n : ℕ) (piece : List ℕ) → n ≡ 0 → Consumes a b (take n piece) → Consumes a b []
none-taken a b n piece e took = subst (λ k. Consumes a b (take k piece)) e took

-- more bytes were taken than a session looks at
pub many-taken : (left mid : Option (List ℕ)) (taken : ℕ)
    → Taking left mid taken → SESSION_LIMIT < taken → taken ≤ SESSION_LIMIT + PIECE → PassedSessionLimit left mid
unfolding taken-of
many-taken left mid taken t many few = record { taken = taken-of left mid taken t few; many = subst (λ n. SESSION_LIMIT < n) t.count many }

-- status 8
pub Answering-long : (left mid : Option (List ℕ)) (taken : ℕ) (f g : List ℕ → List ℕ) (q p : List ℕ → Bool) (out out1 : Option (List ℕ))
    → Answering left mid taken f g q p out out1 → SESSION_LIMIT < taken → taken ≤ SESSION_LIMIT + PIECE → LongEnd f q left mid out out1
unfolding many-taken taken-of
Answering-long left mid taken f g q p out out1 before many few = record {
  long = many-taken left mid taken before.taking many few;
  no_quit = before.no_quit;
  written = before.written;
}

-- replies grow with the bytes
abbrev pub Grows : (List ℕ → List ℕ) → Type 0
Grows f = (a b : List ℕ) → (more : List ℕ) × (f (a ++ b) ≡ f a ++ more)

-- the bytes without the last piece are the first of those before the last read
front-before : (bytes last : List ℕ)
    → length last ≤ PIECE → bytes ≡ take (length (bytes ++ last) - PIECE) (bytes ++ last) ++ drop (length (bytes ++ last) - PIECE) bytes
front-before bytes last few = sym (take-append-drop (length (bytes ++ last) - PIECE) bytes)
    ∙ ap (λ xs. xs ++ drop (length (bytes ++ last) - PIECE) bytes)
    (sym (same (length (bytes ++ last) - PIECE) (le bytes last few (length-append bytes last)))) where
      same : (k : ℕ) → k ≤ length bytes → take k (bytes ++ last) ≡ take k bytes
      same k le = grind (arith, common_steps)

      le : (bytes last : List ℕ) → length last ≤ PIECE → length (bytes ++ last) ≡ length bytes + length last
          → length (bytes ++ last) - PIECE ≤ length bytes
      le bytes last few e = omega (arith, e, few)

-- status 4
pub Answering-cut : (left mid new : Option (List ℕ)) (taken n room : ℕ) (piece : List ℕ) (f g : List ℕ → List ℕ) (q p : List ℕ → Bool)
    (out out1 out2 : Option (List ℕ)) (failed : PutFailed)
    → Grows f → Answering left mid taken f g q p out out1 → taken ≤ SESSION_LIMIT
    → n ≤ length piece → n ≤ PIECE → Consumes mid new (take n piece) → room ≡ min n (SESSION_LIMIT - taken)
    → TookSome 0 out1 out2 (g (take room piece)) failed → PutEnd f q left new out out2 []
unfolding Taking-more taken-of
Answering-cut left mid new taken n room piece f g q p out out1 out2 failed grows before le within few took is cut =
    let s = seen-now left mid taken f g q p out out1 before le in
    let bytes = before.taking.bytes in
    let part = take room piece in
    let beyond = drop room (take n piece) in
    let all : bytes ++ take n piece ≡ (bytes ++ part) ++ beyond =
    ap (λ xs. bytes ++ xs) (piece-split n room piece (room-le n (SESSION_LIMIT - taken) room is)) ∙ sym (append_assoc bytes part beyond) in
    let later = grows (bytes ++ part) beyond in
    let k = cut.n in
    let split : g part ≡ take k (g part) ++ drop k (g part) = sym (take-append-drop k (g part)) in
    let early = length (bytes ++ take n piece) - PIECE in
    let front = front-before bytes (take n piece) (short n piece few) in
    let first = grows (take early (bytes ++ take n piece)) (drop early bytes) in
    record {
      taken = taken-of left new (taken + n) (Taking-more left mid new taken n piece before.taking within took) (few-taken taken n le few);
      put = f bytes ++ take k (g part);
      written = Appends-more out out1 out2 (f bytes) (take k (g part)) s.written cut.written;
      front = record {
        rest = drop k (g part) ++ later.0;
        is = ap f all ∙ later.1 ∙ ap (λ xs. xs ++ later.0)
            (s.replied part ∙ ap (λ xs. f bytes ++ xs) split ∙ sym (append_assoc (f bytes) (take k (g part)) (drop k (g part))))
            ∙ append_assoc (f bytes ++ take k (g part)) (drop k (g part)) later.0;
      };
      unread = λ no. absurd (no (record { rest = f bytes ++ take k (g part); is = refl }));
      prompt = λ _. record {
        rest = first.0 ++ take k (g part);
        is = ap (λ xs. xs ++ take k (g part)) (ap f front ∙ first.1)
            ∙ append_assoc (f (take early (bytes ++ take n piece))) first.0 (take k (g part));
      };
    } where
      short : (n : ℕ) (xs : List ℕ) → n ≤ PIECE → length (take n xs) ≤ PIECE
      short n xs le = grind (arith, common_steps)

-- how a session ended with each status
pub quit-ends : (f : List ℕ → List ℕ) (q : List ℕ → Bool) (left new out out' : Option (List ℕ)) (first : List ℕ)
    → QuitEnd f q left new out out' → SessionEnds f q left new out out' 0 first
quit-ends f q left new out out' first end =
    record { quit = λ _. end; ended = λ e. absurd (cc); read = λ e. absurd (cc); put = λ e. absurd (cc); long = λ e. absurd (cc) }

pub end-ends : (f : List ℕ → List ℕ) (q : List ℕ → Bool) (left new out out' : Option (List ℕ)) (first : List ℕ)
    → OpenEnd f q left new out out' → IsAtEnd new → SessionEnds f q left new out out' 1 first
end-ends f q left new out out' first end at =
    record { quit = λ e. absurd (cc); ended = λ _. (end, at); read = λ e. absurd (cc); put = λ e. absurd (cc); long = λ e. absurd (cc) }

pub read-ends : (f : List ℕ → List ℕ) (q : List ℕ → Bool) (left new out out' : Option (List ℕ)) (first : List ℕ)
    → OpenEnd f q left new out out' → SessionEnds f q left new out out' 3 first
read-ends f q left new out out' first end =
    record { quit = λ e. absurd (cc); ended = λ e. absurd (cc); read = λ _. end; put = λ e. absurd (cc); long = λ e. absurd (cc) }

pub put-ends : (f : List ℕ → List ℕ) (q : List ℕ → Bool) (left new out out' : Option (List ℕ)) (first : List ℕ)
    → PutEnd f q left new out out' first → SessionEnds f q left new out out' 4 first
put-ends f q left new out out' first end =
    record { quit = λ e. absurd (cc); ended = λ e. absurd (cc); read = λ e. absurd (cc); put = λ _. end; long = λ e. absurd (cc) }

pub long-ends : (f : List ℕ → List ℕ) (q : List ℕ → Bool) (left new out out' : Option (List ℕ)) (first : List ℕ)
    → LongEnd f q left new out out' → SessionEnds f q left new out out' 8 first
long-ends f q left new out out' first end =
    record { quit = λ e. absurd (cc); ended = λ e. absurd (cc); read = λ e. absurd (cc); put = λ e. absurd (cc); long = λ _. end }

-- a session with the bytes that were put before it
pub greeted-ends : (f h : List ℕ → List ℕ) (q r : List ℕ → Bool) (left new out out1 out2 : Option (List ℕ)) (first : List ℕ) (status : ℕ)
    → ((bytes : List ℕ) → h bytes ≡ first ++ f bytes) → ((bytes : List ℕ) → r bytes ≡ q bytes)
    → Appends out out1 first → SessionEnds f q left new out1 out2 status [] → SessionEnds h r left new out out2 status first
greeted-ends f h q r left new out out1 out2 first status replies quits before ends = record {
  quit = λ is. let end = ends.quit is in
      record { taken = end.taken; quit = quits (take SESSION_LIMIT end.taken.bytes) ∙ end.quit; written = put end.taken.bytes end.written };
  ended = λ is. (opened (ends.ended is).0, (ends.ended is).1);
  read = λ is. opened (ends.read is);
  put = λ is. cut (ends.put is);
  long = λ is. let end = ends.long is in
      record {
        long = end.long;
        no_quit = quits (take SESSION_LIMIT end.long.taken.bytes) ∙ end.no_quit;
        written = put (take SESSION_LIMIT end.long.taken.bytes) end.written;
      };
} where
  put : (bytes : List ℕ) → Appends out1 out2 (f bytes) → Appends out out2 (h bytes)
  put bytes after = subst (Appends out out2) (sym (replies bytes)) (Appends-more out out1 out2 first (f bytes) before after)

  opened : OpenEnd f q left new out1 out2 → OpenEnd h r left new out out2
  opened end = record {
    taken = end.taken;
    fits = end.fits;
    no_quit = quits end.taken.bytes ∙ end.no_quit;
    written =
        subst (Appends out out2) (sym (replies end.taken.bytes)) (Appends-more out out1 out2 first (f end.taken.bytes) before end.written);
  }

  cut : PutEnd f q left new out1 out2 [] → PutEnd h r left new out out2 first
  cut end =
      let early = end.prompt (record { rest = end.put; is = refl }) in record {
        taken = end.taken;
        put = first ++ end.put;
        written = Appends-more out out1 out2 first end.put before end.written;
        front = record {
          rest = end.front.rest;
          is = replies end.taken.bytes ∙ ap (λ xs. first ++ xs) end.front.is
              ∙ sym (append_assoc first end.put end.front.rest);
        };
        unread = λ no. absurd (no (record { rest = end.put; is = refl }));
        prompt = λ _. record {
          rest = early.rest;
          is = ap (λ xs. first ++ xs) early.is
              ∙ sym (append_assoc first (f (take (length end.taken.bytes - PIECE) end.taken.bytes)) early.rest)
              ∙ ap (λ xs. xs ++ early.rest) (sym (replies (take (length end.taken.bytes - PIECE) end.taken.bytes)));
        };
      }

-- whenever it was asked, with the bytes that were put before it
pub greeted-asks : (f h : List ℕ → List ℕ) (q r : List ℕ → Bool) (left out out1 : Option (List ℕ)) (first : List ℕ)
    (asked asked' : Option (List ℕ) → Option (List ℕ) → Type 0)
    → ((bytes : List ℕ) → h bytes ≡ first ++ f bytes) → ((bytes : List ℕ) → r bytes ≡ q bytes)
    → Appends out out1 first → AskedOnlyWhen (λ l o. OpenEnd f q left l out1 o) asked asked'
    → AskedOnlyWhen (λ l o. OpenEnd h r left l out o) asked asked'
greeted-asks f h q r left out out1 first asked asked' replies quits before asks =
    asked_as (λ l o. OpenEnd f q left l out1 o) (λ l o. OpenEnd h r left l out o) asked asked' opened asks where
      opened : (l o : Option (List ℕ)) → OpenEnd f q left l out1 o → OpenEnd h r left l out o
      opened l o end = record {
        taken = end.taken;
        fits = end.fits;
        no_quit = quits end.taken.bytes ∙ end.no_quit;
        written =
            subst (Appends out o) (sym (replies end.taken.bytes)) (Appends-more out out1 o first (f end.taken.bytes) before end.written);
      }

-- the greeting was cut off
pub greeting-cut : (h : List ℕ → List ℕ) (r : List ℕ → Bool) (left out out' : Option (List ℕ)) (first : List ℕ) (failed : PutFailed)
    → h [] ≡ first → TookSome 0 out out' first failed → PutEnd h r left left out out' first
greeting-cut h r left out out' first failed none cut = record {
  taken = record { bytes = []; taken = Consumes-none left; few = omega arith };
  put = take cut.n first;
  written = cut.written;
  front = record { rest = drop cut.n first; is = none ∙ sym (take-append-drop cut.n first) };
  unread = λ _. refl;
  prompt = λ whole. record { rest = whole.rest; is = whole.is ∙ ap (λ xs. xs ++ whole.rest) (sym (ap h (take-none (0 - PIECE)) ∙ none)) };
}

-- the same bytes after the same front
cancel : (xs ys zs : List ℕ) → xs ++ ys ≡ xs ++ zs → ys ≡ zs
cancel [] ys zs e = e
cancel (x ∷ xs) ys zs e = cancel xs ys zs (tail e) where
  tail : x ∷ (xs ++ ys) ≡ x ∷ (xs ++ zs) → xs ++ ys ≡ xs ++ zs
  tail e = cc

-- the replies of a session that begins, and whether it ends
begun-replies : (s : PopSessionState)
    → s.front ≡ [] → s.phase ≡ Authorization → (rest : List ℕ)
    → replies_from s rest ≡ replies_to s.user s.secret s.letters Authorization (requests rest)
begun-replies s front phase rest =
    ap (λ xs. replies_to s.user s.secret s.letters s.phase (requests (xs ++ rest))) front
    ∙ ap (λ p. replies_to s.user s.secret s.letters p (requests rest)) phase

pub begun-none : (s : PopSessionState) → s.front ≡ [] → s.phase ≡ Authorization → replies_from s [] ≡ []
begun-none s front phase = begun-replies s front phase []

pub begun-open : (s : PopSessionState) → s.front ≡ [] → s.phase ≡ Authorization → quits_from s [] ≡ false
begun-open s front phase =
    ap (λ xs. is_ended (phase_after s.user s.secret s.phase (requests (xs ++ [])))) front
    ∙ ap (λ p. is_ended (phase_after s.user s.secret p (requests []))) phase

-- the replies of a session that begins grow with the bytes
pub begun-grows : (s : PopSessionState) → s.front ≡ [] → s.phase ≡ Authorization → RepliesGrow → Grows (replies_from s)
begun-grows s front phase law a b =
    let grown = law a b s.user s.secret s.letters in
    let from : List ℕ → List ℕ = λ bytes. replies_to s.user s.secret s.letters Authorization (requests bytes) in (
      grown.0,
      begun-replies s front phase (a ++ b)
          ∙ cancel greeting (from (a ++ b)) (from a ++ grown.0) (grown.1 ∙ append_assoc greeting (from a) grown.0)
          ∙ ap (λ xs. xs ++ grown.0) (sym (begun-replies s front phase a)),
    )
