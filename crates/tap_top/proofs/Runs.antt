-- A run over the pieces of a source, and each end of it.
use Rattle.std.proofs.Common.{◌≡◌, ◌∙◌, sym, ap, refl, subst, arith, ℕ, List, [], ◌∷◌, ◌++◌, ◌+◌, ◌-◌, length, take, drop, Bool, true, inl}
use Rattle.std.proofs.Common.{inr, Option, Some, None, ◌≤◌, ◌<◌}
use Rattle.std.specs.Prelude.{◌&&◌, min}
use Rattle.std.specs.Io.KnownBytes.{Consumes, IsAtEnd, Keeps}
use Rattle.std.proofs.lemmas.List.{append_assoc, append-nil, length-append, take_all}
use Rattle.std.proofs.Math.Seq.{take-append-add}
use Rattle.std.proofs.lemmas.Grind.{common_steps}
use Rattle.tap_rows.specs.declared.tables.Tables.{Tables}
use Rattle.script_lang.specs.declared.command.Command.{Command}
use Rattle.script_lang.specs.Script.{script, complete, Reading, new_reading, script_from, complete_from}
use Rattle.tap_model.specs.declared.session.Session.{Session}
use Rattle.tap_model.specs.Sessions.{no_session}
use Rattle.tap_model.specs.Sound.{IsSound}
use Rattle.tap_top.specs.declared.top.TheConstants.{SCRIPT_LIMIT}
use Rattle.tap_edges.specs.declared.pieces.TheConstants.{PIECE}
use Rattle.tap_top.specs.Answers.{Answered, CutOff, Uncommitted, Closed, ClosedCut}
use Rattle.tap_top.specs.Pieces.{PieceAnswered, PieceCut, PieceOutOfMemory}
use Rattle.tap_top.specs.Statuses.{Whole, ReadCut, PassedScriptLimit, TooLong, OutOfMemory, CutAt, PutCut, KeeperCut}
use Rattle.tap_top.proofs.Stories.{Answered-then, Answered-less, CutOff-then, Uncommitted-then}
use Rattle.tap_top.proofs.Steps.{PieceAnswered-start, PieceAnswered-then, CutAfter, joined, ends-cut, sides, take-drop}

-- the bytes taken so far
pub record Taking (left left' : Option (List ℕ)) (taken : ℕ) : Type 0 where
  pub bytes : List ℕ
  pub consumed : Consumes left left' bytes
  pub count : taken ≡ length bytes

-- the run so far: the bytes taken, and what was done with those that a script may have
pub record Running (left left' : Option (List ℕ)) (taken : ℕ) (now : Reading) (t : Tables) (out out' : Option (List ℕ))
    (Ends : Tables → Type 0) (s' : Session) (ok : Bool) : Type 0 where
  pub taking : Taking left left' taken
  pub answered_piece : PieceAnswered (take SCRIPT_LIMIT taking.bytes) new_reading now t no_session out out' Ends s' ok

Consumes-more : (a b c : Option (List ℕ)) (xs ys : List ℕ) → Consumes a b xs → Consumes b c ys → Consumes a c (xs ++ ys)
Consumes-more None b c xs ys one two = tt
Consumes-more (Some us) (Some vs) (Some ws) xs ys one two = one ∙ ap (λ zs. xs ++ zs) two ∙ sym (append_assoc xs ys ws)
Consumes-more (Some us) None c xs ys one two = absurd one
Consumes-more (Some us) (Some vs) None xs ys one two = absurd two

pub Consumes-none : (a : Option (List ℕ)) → Consumes a a []
Consumes-none None = tt
Consumes-none (Some xs) = refl

Consumes-keeps : (a b c : Option (List ℕ)) (xs : List ℕ) → Consumes a b xs → Keeps b c → Consumes a c xs
Consumes-keeps None b c xs one same = tt
Consumes-keeps (Some us) (Some vs) (Some ws) xs one same = one ∙ ap (λ zs. xs ++ zs) (sym same)
Consumes-keeps (Some us) None c xs one same = absurd one
Consumes-keeps (Some us) (Some vs) None xs one same = absurd same

take-none : (n : ℕ) → ◌≡◌ {A = List ℕ} (take n []) []
take-none n = grind (arith, common_steps)

pub Taking-start : (left : Option (List ℕ)) → Taking left left 0
Taking-start left = record { bytes = []; consumed = Consumes-none left; count = refl }

pub Running-start : (left : Option (List ℕ)) (t : Tables) (s : Session) (out : Option (List ℕ)) (Ends : Tables → Type 0) → s ≡ no_session
    → IsSound t s → Ends t → Running left left 0 new_reading t out out Ends s true
unfolding Taking-start
Running-start left t s out Ends new sound ends = record {
  taking = Taking-start left;
  answered_piece = subst (λ xs. PieceAnswered xs new_reading new_reading t no_session out out Ends s true) (sym (take-none SCRIPT_LIMIT))
      (subst (λ v. PieceAnswered [] new_reading new_reading t no_session out out Ends v true) (sym new)
      (PieceAnswered-start new_reading t no_session out Ends refl (subst (IsSound t) new sound) ends));
}

-- the bytes that a script may have, of those taken so far and the next piece
fits : (limit : ℕ) (bytes piece : List ℕ) (n room : ℕ) → length bytes ≤ limit → room ≡ min n (limit - length bytes)
    → take limit (bytes ++ take n piece) ≡ bytes ++ take room piece
fits limit bytes piece n room le is =
    ap (λ k. take k (bytes ++ take n piece)) (whole (length bytes) le) ∙ take-append-add bytes (take n piece) (limit - length bytes)
    ∙ ap (λ xs. bytes ++ xs) (two (limit - length bytes) n piece ∙ ap (λ k. take k piece) (sym is)) where
      whole : (m : ℕ) → m ≤ limit → limit ≡ m + (limit - m)
      whole m le = omega arith

      two : (k n : ℕ) (xs : List ℕ) → take k (take n xs) ≡ take (min n k) xs
      two k n xs = grind (arith, common_steps)

pub same-front : (limit : ℕ) (bytes : List ℕ) → length bytes ≤ limit → take limit bytes ≡ bytes
same-front limit bytes le = take_all limit bytes le

-- while no more bytes were taken than a script may have
pub Running-answered_piece : (left left' : Option (List ℕ)) (taken : ℕ) (now : Reading) (t : Tables) (out out' : Option (List ℕ))
    (Ends : Tables → Type 0) (s' : Session) (ok : Bool) → (before : Running left left' taken now t out out' Ends s' ok)
    → taken ≤ SCRIPT_LIMIT → PieceAnswered before.taking.bytes new_reading now t no_session out out' Ends s' ok
Running-answered_piece left left' taken now t out out' Ends s' ok before le =
    subst (λ xs. PieceAnswered xs new_reading now t no_session out out' Ends s' ok)
    (same-front SCRIPT_LIMIT before.taking.bytes (subst (λ n. n ≤ SCRIPT_LIMIT) before.taking.count le)) before.answered_piece

pub Taking-more : (left mid new : Option (List ℕ)) (taken n : ℕ) (piece : List ℕ) → Taking left mid taken → n ≤ length piece
    → Consumes mid new (take n piece) → Taking left new (taken + n)
Taking-more left mid new taken n piece before within took = record {
  bytes = before.bytes ++ take n piece;
  consumed = Consumes-more left mid new before.bytes (take n piece) before.consumed took;
  count = longer before.bytes before.count;
} where
  longer : (bytes : List ℕ) → taken ≡ length bytes → taken + n ≡ length (bytes ++ take n piece)
  longer bytes e = grind (arith, common_steps)

pub Running-more :
    (left mid new : Option (List ℕ)) (taken n room : ℕ) (piece : List ℕ) (now next : Reading) (t : Tables) (out out1 : Option (List ℕ))
    (Mid : Tables → Type 0) (s1 : Session) (ok : Bool) (out2 : Option (List ℕ)) (Ends : Tables → Type 0) (s2 : Session) (ok2 : Bool)
    → Running left mid taken now t out out1 Mid s1 ok → taken ≤ SCRIPT_LIMIT → n ≤ length piece → Consumes mid new (take n piece)
    → room ≡ min n (SCRIPT_LIMIT - taken) → ((t1 : Tables) → Mid t1 → PieceAnswered (take room piece) now next t1 s1 out1 out2 Ends s2 ok2)
    → Running left new (taken + n) next t out out2 Ends s2 (ok && ok2)
unfolding Taking-more
Running-more left mid new taken n room piece now next t out out1 Mid s1 ok out2 Ends s2 ok2 before le within took is one =
    let answered_piece = Running-answered_piece left mid taken now t out out1 Mid s1 ok before le in record {
      taking = Taking-more left mid new taken n piece before.taking within took;
      answered_piece = subst (λ xs. PieceAnswered xs new_reading next t no_session out out2 Ends s2 (ok && ok2))
          (sym (fits SCRIPT_LIMIT before.taking.bytes piece n room (subst (λ k. k ≤ SCRIPT_LIMIT) before.taking.count le)
          (is ∙ ap (λ k. min n (SCRIPT_LIMIT - k)) before.taking.count)))
          (PieceAnswered-then before.taking.bytes (take room piece) new_reading now next t no_session out out1 Mid s1 ok out2 Ends s2 ok2
          answered_piece (one answered_piece.answered.tables' answered_piece.answered.ends));
    }

-- the complete commands of the bytes are those that were performed
complete-is : (bytes : List ℕ) (now : Reading) (commands : List Command)
    → ((rest : List ℕ) → complete_from new_reading (bytes ++ rest) ≡ commands ++ complete_from now rest) → complete_from now [] ≡ []
    → complete bytes ≡ commands
complete-is bytes now commands ended none = ap complete (sym (append-nil bytes)) ∙ ended [] ∙ ap (λ xs. commands ++ xs) none
    ∙ append-nil commands

script-is : (bytes : List ℕ) (now : Reading) (commands : List Command)
    → ((rest : List ℕ) → script_from new_reading (bytes ++ rest) ≡ commands ++ script_from now rest)
    → script bytes ≡ commands ++ script_from now []
script-is bytes now commands all = ap script (sym (append-nil bytes)) ∙ all []

-- status 3
pub Running-read : (left mid new : Option (List ℕ)) (taken : ℕ) (now : Reading) (t : Tables) (out out1 : Option (List ℕ))
    (Ends Less : Tables → Type 0) (s1 : Session) (ok : Bool) → ((x : Tables) → Ends x → Less x)
    → Running left mid taken now t out out1 Ends s1 ok → taken ≤ SCRIPT_LIMIT → Keeps mid new → ReadCut t left new out out1 Less
Running-read left mid new taken now t out out1 Ends Less s1 ok less before le same =
    let answered_piece = Running-answered_piece left mid taken now t out out1 Ends s1 ok before le in record {
      bytes = before.taking.bytes;
      taken = Consumes-keeps left mid new before.taking.bytes before.taking.consumed same;
      fits = subst (λ n. n ≤ SCRIPT_LIMIT) before.taking.count le;
      session = s1;
      all_ok = ok;
      answered = Answered-less t no_session (complete before.taking.bytes) out out1 Ends Less s1 ok less
          (subst (λ cs. Answered t no_session cs out out1 Ends s1 ok)
          (sym (complete-is before.taking.bytes now answered_piece.commands answered_piece.ended answered_piece.open_end))
          answered_piece.answered);
    }

-- status 8
pub Taking-many : (left mid : Option (List ℕ)) (taken : ℕ) → Taking left mid taken → SCRIPT_LIMIT < taken → taken ≤ SCRIPT_LIMIT + PIECE
    → PassedScriptLimit left mid
Taking-many left mid taken before many few = record {
  bytes = before.bytes;
  taken = before.consumed;
  many = subst (λ n. SCRIPT_LIMIT < n) before.count many;
  few = subst (λ n. n ≤ SCRIPT_LIMIT + PIECE) before.count few;
}

pub Running-long : (left mid : Option (List ℕ)) (taken : ℕ) (now : Reading) (t : Tables) (out out1 : Option (List ℕ))
    (Ends Less : Tables → Type 0) (s1 : Session) (ok : Bool) → ((x : Tables) → Ends x → Less x)
    → Running left mid taken now t out out1 Ends s1 ok → SCRIPT_LIMIT < taken → taken ≤ SCRIPT_LIMIT + PIECE
    → TooLong t left mid out out1 Less
unfolding Taking-many
Running-long left mid taken now t out out1 Ends Less s1 ok less before many few = record {
  long = Taking-many left mid taken before.taking many few;
  session = s1;
  all_ok = ok;
  answered = Answered-less t no_session (complete (take SCRIPT_LIMIT before.taking.bytes)) out out1 Ends Less s1 ok less
      (subst (λ cs. Answered t no_session cs out out1 Ends s1 ok) (sym (complete-is (take SCRIPT_LIMIT before.taking.bytes) now
      before.answered_piece.commands before.answered_piece.ended before.answered_piece.open_end)) before.answered_piece.answered);
}

-- the rest of a piece after some front of the bytes that a script may have
record Behind (piece fed : List ℕ) (n : ℕ) : Type 0 where
  pub more : List ℕ
  pub is : take n piece ≡ fed ++ more

behind : (piece fed more : List ℕ) (n room limit : ℕ) → room ≡ min n limit → take room piece ≡ fed ++ more → Behind piece fed n
behind piece fed more n room limit is split = record {
  more = more ++ drop room (take n piece);
  is = take-drop room (take n piece) ∙ ap (λ xs. xs ++ drop room (take n piece)) (two room n piece (least n limit is) ∙ split)
      ∙ append_assoc fed more (drop room (take n piece));
} where
  least : (n limit : ℕ) → room ≡ min n limit → room ≤ n
  least n limit is = grind arith

  two : (k n : ℕ) (xs : List ℕ) → k ≤ n → take k (take n xs) ≡ take k xs
  two k n xs le = grind (arith, common_steps)

few-more : (bytes piece : List ℕ) (taken n : ℕ) → taken ≡ length bytes → taken ≤ SCRIPT_LIMIT → n ≤ PIECE
    → length (bytes ++ take n piece) ≤ SCRIPT_LIMIT + PIECE
few-more bytes piece taken n count le within = let l = length-append bytes (take n piece) in let m = short n piece in omega arith where
  short : (n : ℕ) (xs : List ℕ) → length (take n xs) ≤ n
  short n xs = grind (arith, common_steps)

few-now : (bytes : List ℕ) (taken : ℕ) → taken ≡ length bytes → taken ≤ SCRIPT_LIMIT → length bytes ≤ SCRIPT_LIMIT + PIECE
few-now bytes taken count le = omega arith

-- the bytes that a script may have, of those taken so far and a piece of which a reader took a front
front-of : (bytes piece fed more : List ℕ) (taken n room : ℕ) → taken ≡ length bytes → taken ≤ SCRIPT_LIMIT → room
    ≡ min n (SCRIPT_LIMIT - taken) → take room piece ≡ fed ++ more → take SCRIPT_LIMIT (bytes ++ take n piece) ≡ (bytes ++ fed) ++ more
front-of bytes piece fed more taken n room count le is split =
    fits SCRIPT_LIMIT bytes piece n room (subst (λ k. k ≤ SCRIPT_LIMIT) count le) (is ∙ ap (λ k. min n (SCRIPT_LIMIT - k)) count)
    ∙ ap (λ xs. bytes ++ xs) split
    ∙ sym (append_assoc bytes fed more)

-- a command in a piece was cut off
Running-at : (left mid new : Option (List ℕ)) (taken n room : ℕ) (piece : List ℕ) (now : Reading) (t : Tables) (out out1 : Option (List ℕ))
    (Mid : Tables → Type 0) (s1 : Session) (ok : Bool) (Cut Whole : List Command → Command → Type 0)
    → (before : Running left mid taken now t out out1 Mid s1 ok) → (le : taken ≤ SCRIPT_LIMIT) → n ≤ PIECE → Consumes mid new (take n piece)
    → room ≡ min n (SCRIPT_LIMIT - taken)
    → CutAfter (Running-answered_piece left mid taken now t out out1 Mid s1 ok before le).commands Cut Whole
    → PieceCut (take room piece) now Cut → CutAt left new Whole
Running-at left mid new taken n room piece now t out out1 Mid s1 ok Cut Whole before le within took is whole cut =
    let answered_piece = Running-answered_piece left mid taken now t out out1 Mid s1 ok before le in
    let b = behind piece (cut.most ++ cut.byte ∷ []) cut.more n room (SCRIPT_LIMIT - taken) is cut.split in
    let ended = ends-cut before.taking.bytes cut.most cut.byte new_reading now
    cut.new answered_piece.commands cut.done cut.last answered_piece.ended cut.ended in
    let front : take SCRIPT_LIMIT (before.taking.bytes ++ take n piece) ≡ ((before.taking.bytes ++ cut.most) ++ cut.byte ∷ []) ++ cut.more =
    front-of before.taking.bytes piece (cut.most ++ cut.byte ∷ []) cut.more taken n room before.taking.count le is cut.split
    ∙ ap (λ xs. xs ++ cut.more) (sym (append_assoc before.taking.bytes cut.most (cut.byte ∷ []))) in record {
      bytes = before.taking.bytes ++ take n piece;
      taken = Consumes-more left mid new before.taking.bytes (take n piece) before.taking.consumed took;
      few = few-more before.taking.bytes piece taken n before.taking.count le within;
      done = answered_piece.commands ++ cut.done;
      last = cut.last;
      first = inl (record { rest = complete_from cut.new cut.more; is = ap complete front ∙ ended cut.more });
      prompt = inl (record {
        most = before.taking.bytes ++ cut.most;
        byte = cut.byte;
        more = b.more;
        split = ap (λ xs. before.taking.bytes ++ xs) b.is ∙ sides before.taking.bytes cut.most (cut.byte ∷ []) b.more;
        before = answered_piece.ended cut.most ∙ ap (λ cs. answered_piece.commands ++ cs) cut.before;
        then_done = complete-is ((before.taking.bytes ++ cut.most) ++ cut.byte ∷ [])
            cut.new ((answered_piece.commands ++ cut.done) ++ cut.last ∷ []) ended cut.open_end;
        few = few cut.most cut.byte b.more b.is;
      });
      cut = whole cut.done cut.last cut.cut;
    } where
      short : (n : ℕ) (xs : List ℕ) → length (take n xs) ≤ n
      short n xs = grind (arith, common_steps)

      few : (most : List ℕ) (byte : ℕ) (more : List ℕ) → take n piece ≡ (most ++ byte ∷ []) ++ more → length more < PIECE
      few most byte more e =
          let l = length-append (most ++ byte ∷ []) more in
          let m = length-append most (byte ∷ []) in
          let k = ap length e in
          let j : length (take n piece) ≤ n = short n piece in
          omega arith

-- status 4, in a piece
pub Running-cut : (left mid new : Option (List ℕ)) (taken n room : ℕ) (piece : List ℕ) (now : Reading) (t : Tables)
    (out out1 : Option (List ℕ)) (Mid : Tables → Type 0) (s1 : Session) (ok : Bool) (out2 : Option (List ℕ)) (Ends : Tables → Type 0)
    → Running left mid taken now t out out1 Mid s1 ok → taken ≤ SCRIPT_LIMIT → n ≤ PIECE → Consumes mid new (take n piece)
    → room ≡ min n (SCRIPT_LIMIT - taken)
    → ((t1 : Tables) → Mid t1 → PieceCut (take room piece) now (λ done last. CutOff t1 s1 done last out1 out2 Ends))
    → PutCut t left new out out2 Ends
Running-cut left mid new taken n room piece now t out out1 Mid s1 ok out2 Ends before le within took is cut =
    let answered_piece = Running-answered_piece left mid taken now t out out1 Mid s1 ok before le in
    Running-at left mid new taken n room piece now t out out1 Mid s1 ok
    (λ done last. CutOff answered_piece.answered.tables' s1 done last out1 out2 Ends)
    (λ done last. CutOff t no_session done last out out2 Ends) before le within took is
    (λ done last one. CutOff-then t no_session answered_piece.commands out out1 Mid s1 ok done last out2 Ends answered_piece.answered one)
    (cut answered_piece.answered.tables' answered_piece.answered.ends)

-- status 5, in a piece
pub Running-uncommitted : (left mid new : Option (List ℕ)) (taken n room : ℕ) (piece : List ℕ) (now : Reading) (t : Tables)
    (out out1 : Option (List ℕ)) (Mid : Tables → Type 0) (s1 : Session) (ok : Bool) (out2 : Option (List ℕ)) (leaves : Tables → Type 0)
    → Running left mid taken now t out out1 Mid s1 ok → taken ≤ SCRIPT_LIMIT → n ≤ PIECE → Consumes mid new (take n piece)
    → room ≡ min n (SCRIPT_LIMIT - taken)
    → ((t1 : Tables) → Mid t1 → PieceCut (take room piece) now (λ done next. Uncommitted t1 s1 done next out1 out2 leaves))
    → KeeperCut t left new out out2 leaves
Running-uncommitted left mid new taken n room piece now t out out1 Mid s1 ok out2 leaves before le within took is cut =
    let answered_piece = Running-answered_piece left mid taken now t out out1 Mid s1 ok before le in
    Running-at left mid new taken n room piece now t out out1 Mid s1 ok
    (λ done next. Uncommitted answered_piece.answered.tables' s1 done next out1 out2 leaves)
    (λ done next. Uncommitted t no_session done next out out2 leaves) before le within took is
    (λ done next one. Uncommitted-then t no_session answered_piece.commands out out1 Mid s1 ok done next out2 leaves
    answered_piece.answered one) (cut answered_piece.answered.tables' answered_piece.answered.ends)

-- status 7, in a piece
pub Running-short : (left mid new : Option (List ℕ)) (taken n room : ℕ) (piece : List ℕ) (now : Reading) (t : Tables)
    (out out1 : Option (List ℕ)) (Mid : Tables → Type 0) (s1 : Session) (ok : Bool) (out2 : Option (List ℕ)) (Ends : Tables → Type 0)
    → Running left mid taken now t out out1 Mid s1 ok → taken ≤ SCRIPT_LIMIT → n ≤ PIECE → Consumes mid new (take n piece)
    → room ≡ min n (SCRIPT_LIMIT - taken) → ((t1 : Tables) → Mid t1 → PieceOutOfMemory (take room piece) now t1 s1 out1 out2 Ends)
    → OutOfMemory t left new out out2 Ends
Running-short left mid new taken n room piece now t out out1 Mid s1 ok out2 Ends before le within took is short =
    let answered_piece = Running-answered_piece left mid taken now t out out1 Mid s1 ok before le in
    let cut = short answered_piece.answered.tables' answered_piece.answered.ends in
    let ended = joined before.taking.bytes cut.fed new_reading now cut.new complete_from
    answered_piece.commands cut.answered_piece.commands answered_piece.ended cut.answered_piece.ended in
    record {
      bytes = before.taking.bytes ++ take n piece;
      taken = Consumes-more left mid new before.taking.bytes (take n piece) before.taking.consumed took;
      few = few-more before.taking.bytes piece taken n before.taking.count le within;
      commands = answered_piece.commands ++ cut.answered_piece.commands;
      first = record {
        rest = complete_from cut.new cut.more;
        is = ap complete
            (front-of before.taking.bytes piece cut.fed cut.more taken n room before.taking.count le is cut.split) ∙ ended cut.more;
      };
      session = cut.session';
      all_ok = ok && cut.all_ok;
      answered = Answered-then t no_session answered_piece.commands out out1 Mid s1 ok cut.answered_piece.commands out2 Ends
          cut.session' cut.all_ok answered_piece.answered cut.answered_piece.answered;
    }

-- at the end of input
Running-whole : (left mid new : Option (List ℕ)) (taken : ℕ) (now : Reading) (t : Tables) (out out1 : Option (List ℕ))
    (Mid : Tables → Type 0) (s1 : Session) (ok : Bool) (out2 : Option (List ℕ)) (Ends : Tables → Type 0) (s2 : Session) (ok2 : Bool)
    → (before : Running left mid taken now t out out1 Mid s1 ok) → (le : taken ≤ SCRIPT_LIMIT) → Consumes mid new [] → IsAtEnd new
    → Answered (Running-answered_piece left mid taken now t out out1 Mid s1 ok before le).answered.tables' s1 (script_from now []) out1 out2
    Ends s2 ok2 → Whole t left new out out2 Ends (ok && ok2)
Running-whole left mid new taken now t out out1 Mid s1 ok out2 Ends s2 ok2 before le took end last =
    let answered_piece = Running-answered_piece left mid taken now t out out1 Mid s1 ok before le in record {
      bytes = before.taking.bytes;
      taken = subst (Consumes left new) (append-nil before.taking.bytes)
          (Consumes-more left mid new before.taking.bytes [] before.taking.consumed took);
      ended = end;
      fits = subst (λ n. n ≤ SCRIPT_LIMIT) before.taking.count le;
      session = s2;
      answered = subst (λ cs. Answered t no_session cs out out2 Ends s2 (ok && ok2))
          (sym (script-is before.taking.bytes now answered_piece.commands answered_piece.all)) (Answered-then t no_session
          answered_piece.commands out out1 Mid s1 ok (script_from now []) out2 Ends s2 ok2 answered_piece.answered last);
    }

-- statuses 0 and 1
pub Running-closed : (left mid new : Option (List ℕ)) (taken : ℕ) (now : Reading) (t : Tables) (out out1 : Option (List ℕ))
    (Mid : Tables → Type 0) (s1 : Session) (ok : Bool) (out2 : Option (List ℕ)) (Ends : Tables → Type 0) (all_ok : Bool)
    → Running left mid taken now t out out1 Mid s1 ok → taken ≤ SCRIPT_LIMIT → Consumes mid new [] → IsAtEnd new
    → ((t1 : Tables) → Mid t1 → Closed t1 s1 (script_from now []) out1 out2 Ends ok all_ok) → Whole t left new out out2 Ends all_ok
Running-closed left mid new taken now t out out1 Mid s1 ok out2 Ends all_ok before le took end close =
    let answered_piece = Running-answered_piece left mid taken now t out out1 Mid s1 ok before le in
    let closed = close answered_piece.answered.tables' answered_piece.answered.ends in
    subst (λ b. Whole t left new out out2 Ends b) (sym closed.all_is)
    (Running-whole left mid new taken now t out out1 Mid s1 ok out2 Ends closed.session' closed.ok before le took end closed.answered)

-- the last command was cut off at the end of input
Running-end-at : (left mid new : Option (List ℕ)) (taken : ℕ) (now : Reading) (t : Tables) (out out1 : Option (List ℕ))
    (Mid : Tables → Type 0) (s1 : Session) (ok : Bool) (Cut Whole : List Command → Command → Type 0)
    → (before : Running left mid taken now t out out1 Mid s1 ok) → (le : taken ≤ SCRIPT_LIMIT) → Consumes mid new [] → IsAtEnd new
    → CutAfter (Running-answered_piece left mid taken now t out out1 Mid s1 ok before le).commands Cut Whole
    → ClosedCut (script_from now []) Cut → CutAt left new Whole
Running-end-at left mid new taken now t out out1 Mid s1 ok Cut Whole before le took end whole closed =
    let answered_piece = Running-answered_piece left mid taken now t out out1 Mid s1 ok before le in
    let is : script before.taking.bytes ≡ (answered_piece.commands ++ []) ++ closed.last ∷ [] =
    script-is before.taking.bytes now answered_piece.commands answered_piece.all ∙ ap (λ cs. answered_piece.commands ++ cs) closed.only
    ∙ ap (λ cs. cs ++ closed.last ∷ []) (sym (append-nil answered_piece.commands)) in
    let same = same-front SCRIPT_LIMIT before.taking.bytes (subst (λ n. n ≤ SCRIPT_LIMIT) before.taking.count le) in record {
      bytes = before.taking.bytes;
      taken = subst (Consumes left new) (append-nil before.taking.bytes)
          (Consumes-more left mid new before.taking.bytes [] before.taking.consumed took);
      few = few-now before.taking.bytes taken before.taking.count le;
      done = answered_piece.commands ++ [];
      last = closed.last;
      first = inr (
        end,
        record { rest = []; is = ap script same ∙ is ∙ sym (append-nil ((answered_piece.commands ++ []) ++ closed.last ∷ [])) },
      );
      prompt = inr (record {
        ended = end;
        before = complete-is before.taking.bytes now answered_piece.commands answered_piece.ended
            answered_piece.open_end ∙ sym (append-nil answered_piece.commands);
        then_done = is;
      });
      cut = whole [] closed.last closed.cut;
    }

-- status 4, at the end of input
pub Running-end-cut : (left mid new : Option (List ℕ)) (taken : ℕ) (now : Reading) (t : Tables) (out out1 : Option (List ℕ))
    (Mid : Tables → Type 0) (s1 : Session) (ok : Bool) (out2 : Option (List ℕ)) (Ends : Tables → Type 0)
    → Running left mid taken now t out out1 Mid s1 ok → taken ≤ SCRIPT_LIMIT → Consumes mid new [] → IsAtEnd new
    → ((t1 : Tables) → Mid t1 → ClosedCut (script_from now []) (λ done last. CutOff t1 s1 done last out1 out2 Ends))
    → PutCut t left new out out2 Ends
Running-end-cut left mid new taken now t out out1 Mid s1 ok out2 Ends before le took end cut =
    let answered_piece = Running-answered_piece left mid taken now t out out1 Mid s1 ok before le in
    Running-end-at left mid new taken now t out out1 Mid s1 ok
    (λ done last. CutOff answered_piece.answered.tables' s1 done last out1 out2 Ends)
    (λ done last. CutOff t no_session done last out out2 Ends) before le took end
    (λ done last one. CutOff-then t no_session answered_piece.commands out out1 Mid s1 ok done last out2 Ends answered_piece.answered one)
    (cut answered_piece.answered.tables' answered_piece.answered.ends)

-- status 5, at the end of input
pub Running-end-uncommitted : (left mid new : Option (List ℕ)) (taken : ℕ) (now : Reading) (t : Tables) (out out1 : Option (List ℕ))
    (Mid : Tables → Type 0) (s1 : Session) (ok : Bool) (out2 : Option (List ℕ)) (leaves : Tables → Type 0)
    → Running left mid taken now t out out1 Mid s1 ok → taken ≤ SCRIPT_LIMIT → Consumes mid new [] → IsAtEnd new
    → ((t1 : Tables) → Mid t1 → ClosedCut (script_from now []) (λ done next. Uncommitted t1 s1 done next out1 out2 leaves))
    → KeeperCut t left new out out2 leaves
Running-end-uncommitted left mid new taken now t out out1 Mid s1 ok out2 leaves before le took end cut =
    let answered_piece = Running-answered_piece left mid taken now t out out1 Mid s1 ok before le in
    Running-end-at left mid new taken now t out out1 Mid s1 ok
    (λ done next. Uncommitted answered_piece.answered.tables' s1 done next out1 out2 leaves)
    (λ done next. Uncommitted t no_session done next out out2 leaves) before le took end
    (λ done next one. Uncommitted-then t no_session answered_piece.commands out out1 Mid s1 ok done next out2 leaves
    answered_piece.answered one) (cut answered_piece.answered.tables' answered_piece.answered.ends)

-- status 7, at the end of input
pub Running-end-short : (left mid new : Option (List ℕ)) (taken : ℕ) (now : Reading) (t : Tables) (out out1 : Option (List ℕ))
    (Ends Less : Tables → Type 0) (s1 : Session) (ok : Bool) → ((x : Tables) → Ends x → Less x)
    → Running left mid taken now t out out1 Ends s1 ok → taken ≤ SCRIPT_LIMIT → Consumes mid new [] → OutOfMemory t left new out out1 Less
Running-end-short left mid new taken now t out out1 Ends Less s1 ok less before le took =
    let answered_piece = Running-answered_piece left mid taken now t out out1 Ends s1 ok before le in
    let same = same-front SCRIPT_LIMIT before.taking.bytes (subst (λ n. n ≤ SCRIPT_LIMIT) before.taking.count le) in record {
      bytes = before.taking.bytes;
      taken = subst (Consumes left new) (append-nil before.taking.bytes)
          (Consumes-more left mid new before.taking.bytes [] before.taking.consumed took);
      few = few-now before.taking.bytes taken before.taking.count le;
      commands = answered_piece.commands;
      first = record {
        rest = [];
        is = ap complete same ∙ complete-is before.taking.bytes now
            answered_piece.commands answered_piece.ended answered_piece.open_end ∙ sym (append-nil answered_piece.commands);
      };
      session = s1;
      all_ok = ok;
      answered = Answered-less t no_session answered_piece.commands out out1 Ends Less s1 ok less answered_piece.answered;
    }

pub few-taken : (taken n : ℕ) → taken ≤ SCRIPT_LIMIT → n ≤ PIECE → taken + n ≤ SCRIPT_LIMIT + PIECE
few-taken taken n le within = omega arith

-- a read of no bytes
pub none-taken : (a b : Option (List ℕ)) (n : ℕ) (piece : List ℕ) → n ≡ 0 → Consumes a b (take n piece) → Consumes a b []
none-taken a b n piece e took = subst (λ k. Consumes a b (take k piece)) e took

pub OutOfMemory-same : (t : Tables) (left new out out1 out2 : Option (List ℕ)) (Ends : Tables → Type 0) → out2 ≡ out1
    → OutOfMemory t left new out out1 Ends → OutOfMemory t left new out out2 Ends
OutOfMemory-same t left new out out1 out2 Ends same run = subst (λ o. OutOfMemory t left new out o Ends) (sym same) run
