-- What a reader of a script and the commands that it completed did so far.
use Rattle.std.proofs.Common.{◌≡◌, ◌∙◌, sym, ap, refl, subst, arith, ℕ, Err, List, [], ◌∷◌, ◌++◌, ◌+◌, ◌-◌, get_or, length, take, drop}
use Rattle.std.proofs.Common.{Bool, true, false, Option, ◌≤◌, ◌<◌}
use Rattle.std.specs.Prelude.{◌&&◌, option_to_list, Result}
use Rattle.std.proofs.lemmas.List.{append_assoc, take_more}
use Rattle.std.proofs.lemmas.Grind.{common_steps}
use Rattle.keeper_core.specs.declared.keeper.Keeper.{Ghosts}
use Rattle.tap_rows.specs.declared.tables.Tables.{Tables}
use Rattle.script_lang.specs.declared.command.Command.{Command}
use Rattle.script_lang.specs.Script.{Reading, script_from, complete_from}
use Rattle.tap_model.specs.declared.session.Session.{Session}
use Rattle.tap_model.specs.Sound.{IsSound}
use Rattle.tap_top.specs.Frames.{KeeperFrame}
use Rattle.tap_top.specs.Answers.{Answered, CutOff, Uncommitted}
use Rattle.tap_top.specs.Pieces.{PieceAnswered, PieceCut, PieceOutOfMemory}
use Rattle.tap_top.proofs.Stories.{Answered-none, Answered-then, Answered-less, CutOff-then, Uncommitted-then}

pub PieceAnswered-start : (r : Reading) (t : Tables) (s : Session) (out : Option (List ℕ)) (Ends : Tables → Type 0)
    → complete_from r [] ≡ [] → IsSound t s → Ends t → PieceAnswered [] r r t s out out Ends s true
PieceAnswered-start r t s out Ends none sound ends =
    record { commands = []; all = λ rest. refl; ended = λ rest. refl; open_end = none; answered = Answered-none t s out Ends sound ends }

pub joined : (a b : List ℕ) (r r1 r2 : Reading) (f : Reading → List ℕ → List Command) (cs ds : List Command)
    → ((rest : List ℕ) → f r (a ++ rest) ≡ cs ++ f r1 rest) → ((rest : List ℕ) → f r1 (b ++ rest) ≡ ds ++ f r2 rest) → (rest : List ℕ)
    → f r ((a ++ b) ++ rest) ≡ (cs ++ ds) ++ f r2 rest
joined a b r r1 r2 f cs ds one two rest = ap (f r) (append_assoc a b rest) ∙ one (b ++ rest) ∙ ap (λ xs. cs ++ xs) (two rest)
    ∙ sym (append_assoc cs ds (f r2 rest))

pub PieceAnswered-then : (a b : List ℕ) (r r1 r2 : Reading) (t : Tables) (s : Session) (out mid : Option (List ℕ)) (Mid : Tables → Type 0)
    (s1 : Session) (x : Bool) (new : Option (List ℕ)) (Ends : Tables → Type 0) (s2 : Session) (y : Bool)
    → (one : PieceAnswered a r r1 t s out mid Mid s1 x) → PieceAnswered b r1 r2 one.answered.tables' s1 mid new Ends s2 y
    → PieceAnswered (a ++ b) r r2 t s out new Ends s2 (x && y)
PieceAnswered-then a b r r1 r2 t s out mid Mid s1 x new Ends s2 y one two = record {
  commands = one.commands ++ two.commands;
  all = joined a b r r1 r2 script_from one.commands two.commands one.all two.all;
  ended = joined a b r r1 r2 complete_from one.commands two.commands one.ended two.ended;
  open_end = two.open_end;
  answered = Answered-then t s one.commands out mid Mid s1 x two.commands new Ends s2 y one.answered two.answered;
}

pub PieceAnswered-less : (a : List ℕ) (r r1 : Reading) (t : Tables) (s : Session) (out mid : Option (List ℕ)) (Ends Less : Tables → Type 0)
    (s1 : Session) (x : Bool) → ((y : Tables) → Ends y → Less y) → PieceAnswered a r r1 t s out mid Ends s1 x
    → PieceAnswered a r r1 t s out mid Less s1 x
PieceAnswered-less a r r1 t s out mid Ends Less s1 x less one = record {
  commands = one.commands;
  all = one.all;
  ended = one.ended;
  open_end = one.open_end;
  answered = Answered-less t s one.commands out mid Ends Less s1 x less one.answered;
}

pub sides : {A : Type 0} (a b c d : List A) → a ++ ((b ++ c) ++ d) ≡ ((a ++ b) ++ c) ++ d
sides a b c d = sym (append_assoc a (b ++ c) d) ∙ ap (λ xs. xs ++ d) (sym (append_assoc a b c))

-- bytes that a reader took, and a front whose last byte completes the last command
pub ends-cut : (a most : List ℕ) (byte : ℕ) (r r1 new : Reading) (xs done : List Command) (last : Command)
    → ((rest : List ℕ) → complete_from r (a ++ rest) ≡ xs ++ complete_from r1 rest)
    → ((rest : List ℕ) → complete_from r1 ((most ++ byte ∷ []) ++ rest) ≡ (done ++ last ∷ []) ++ complete_from new rest) → (rest : List ℕ)
    → complete_from r (((a ++ most) ++ byte ∷ []) ++ rest) ≡ ((xs ++ done) ++ last ∷ []) ++ complete_from new rest
ends-cut a most byte r r1 new xs done last one two rest =
    ap (complete_from r) (sym (sides a most (byte ∷ []) rest))
    ∙ one ((most ++ byte ∷ []) ++ rest)
    ∙ ap (λ cs. xs ++ cs) (two rest)
    ∙ sides xs done (last ∷ []) (complete_from new rest)

-- how a command is cut off, after these commands
abbrev pub CutAfter : List Command → (List Command → Command → Type 0) → (List Command → Command → Type 0) → Type 0
CutAfter commands Cut Whole = (done : List Command) (last : Command) → Cut done last → Whole (commands ++ done) last

-- a step after some bytes was cut off
pub PieceCut-then : (a b : List ℕ) (r r1 : Reading) (t : Tables) (s : Session) (out mid : Option (List ℕ)) (Mid : Tables → Type 0)
    (s1 : Session) (x : Bool) (Cut Whole : List Command → Command → Type 0) → (one : PieceAnswered a r r1 t s out mid Mid s1 x)
    → CutAfter one.commands Cut Whole → PieceCut b r1 Cut → PieceCut (a ++ b) r Whole
PieceCut-then a b r r1 t s out mid Mid s1 x Cut Whole one whole cut = record {
  most = a ++ cut.most;
  byte = cut.byte;
  more = cut.more;
  split = ap (λ xs. a ++ xs) cut.split ∙ sides a cut.most (cut.byte ∷ []) cut.more;
  done = one.commands ++ cut.done;
  last = cut.last;
  before = one.ended cut.most ∙ ap (λ cs. one.commands ++ cs) cut.before;
  new = cut.new;
  ended = ends-cut a cut.most cut.byte r r1 cut.new one.commands cut.done cut.last one.ended cut.ended;
  open_end = cut.open_end;
  cut = whole cut.done cut.last cut.cut;
}

pub PieceOutOfMemory-now : (a b : List ℕ) (r r1 : Reading) (t : Tables) (s : Session) (out mid : Option (List ℕ)) (Ends : Tables → Type 0)
    (s1 : Session) (x : Bool) → PieceAnswered a r r1 t s out mid Ends s1 x → PieceOutOfMemory (a ++ b) r t s out mid Ends
PieceOutOfMemory-now a b r r1 t s out mid Ends s1 x one =
    record { fed = a; more = b; split = refl; new = r1; session' = s1; all_ok = x; answered_piece = one }

-- a loop over a piece: what it took of the piece, and what is left of it
pub record Feeding (piece left : List ℕ) (old now : Reading) (t : Tables) (s : Session) (out mid : Option (List ℕ)) (Ends : Tables → Type 0)
    (s1 : Session) (ok : Bool) : Type 0 where
  pub fed : List ℕ
  pub split : piece ≡ fed ++ left
  pub answered_piece : PieceAnswered fed old now t s out mid Ends s1 ok

pub Feeding-start : (piece : List ℕ) (r : Reading) (t : Tables) (s : Session) (out : Option (List ℕ)) (Ends : Tables → Type 0)
    → complete_from r [] ≡ [] → IsSound t s → Ends t → Feeding piece piece r r t s out out Ends s true
Feeding-start piece r t s out Ends none sound ends =
    record { fed = []; split = refl; answered_piece = PieceAnswered-start r t s out Ends none sound ends }

pub take-drop : (n : ℕ) (xs : List ℕ) → xs ≡ take n xs ++ drop n xs
take-drop n xs = grind (arith, common_steps)

pub Feeding-more : (piece left left' : List ℕ) (n : ℕ) (old now new : Reading) (t : Tables) (s : Session) (out mid : Option (List ℕ))
    (Mid : Tables → Type 0) (s1 : Session) (ok : Bool) (out2 : Option (List ℕ)) (Ends : Tables → Type 0) (s2 : Session) (ok2 : Bool)
    → Feeding piece left old now t s out mid Mid s1 ok → left' ≡ drop n left
    → ((t1 : Tables) → Mid t1 → PieceAnswered (take n left) now new t1 s1 mid out2 Ends s2 ok2)
    → Feeding piece left' old new t s out out2 Ends s2 (ok && ok2)
Feeding-more piece left left' n old now new t s out mid Mid s1 ok out2 Ends s2 ok2 before next one = record {
  fed = before.fed ++ take n left;
  split = before.split ∙ ap (λ xs. before.fed ++ xs) (take-drop n left ∙ ap (λ xs. take n left ++ xs) (sym next))
      ∙ sym (append_assoc before.fed (take n left) left');
  answered_piece = PieceAnswered-then before.fed (take n left) old now new t s out mid Mid s1 ok out2 Ends s2 ok2
      before.answered_piece (one before.answered_piece.answered.tables' before.answered_piece.answered.ends);
}

-- a reply is cut off
pub Feeding-cut : (piece left : List ℕ) (old now : Reading) (t : Tables) (s : Session) (out mid : Option (List ℕ)) (Mid : Tables → Type 0)
    (s1 : Session) (ok : Bool) (out2 : Option (List ℕ)) (Ends : Tables → Type 0) → Feeding piece left old now t s out mid Mid s1 ok
    → ((t1 : Tables) → Mid t1 → PieceCut left now (λ done last. CutOff t1 s1 done last mid out2 Ends))
    → PieceCut piece old (λ done last. CutOff t s done last out out2 Ends)
Feeding-cut piece left old now t s out mid Mid s1 ok out2 Ends before cut =
    let answered_piece = before.answered_piece in
    subst (λ xs. PieceCut xs old (λ done last. CutOff t s done last out out2 Ends)) (sym before.split)
    (PieceCut-then before.fed left old now t s out mid Mid s1 ok (λ done last.
    CutOff answered_piece.answered.tables' s1 done last mid out2 Ends) (λ done last. CutOff t s done last out out2 Ends) answered_piece
    (λ done last one. CutOff-then t s answered_piece.commands out mid Mid s1 ok done last out2 Ends answered_piece.answered one)
    (cut answered_piece.answered.tables' answered_piece.answered.ends))

-- a commit fails
pub Feeding-uncommitted : (piece left : List ℕ) (old now : Reading) (t : Tables) (s : Session) (out mid : Option (List ℕ))
    (Mid : Tables → Type 0) (s1 : Session) (ok : Bool) (out2 : Option (List ℕ)) (leaves : Tables → Type 0)
    → Feeding piece left old now t s out mid Mid s1 ok
    → ((t1 : Tables) → Mid t1 → PieceCut left now (λ done next. Uncommitted t1 s1 done next mid out2 leaves))
    → PieceCut piece old (λ done next. Uncommitted t s done next out out2 leaves)
Feeding-uncommitted piece left old now t s out mid Mid s1 ok out2 leaves before cut =
    let answered_piece = before.answered_piece in
    subst (λ xs. PieceCut xs old (λ done next. Uncommitted t s done next out out2 leaves)) (sym before.split)
    (PieceCut-then before.fed left old now t s out mid Mid s1 ok
    (λ done next. Uncommitted answered_piece.answered.tables' s1 done next mid out2 leaves)
    (λ done next. Uncommitted t s done next out out2 leaves) answered_piece
    (λ done next one. Uncommitted-then t s answered_piece.commands out mid Mid s1 ok done next out2 leaves answered_piece.answered one)
    (cut answered_piece.answered.tables' answered_piece.answered.ends))

-- no memory for the next step
pub Feeding-short : (piece left : List ℕ) (old now : Reading) (t : Tables) (s : Session) (out mid out2 : Option (List ℕ))
    (Ends Less : Tables → Type 0) (s1 : Session) (ok : Bool) → ((x : Tables) → Ends x → Less x) → out2 ≡ mid
    → Feeding piece left old now t s out mid Ends s1 ok → PieceOutOfMemory piece old t s out out2 Less
Feeding-short piece left old now t s out mid out2 Ends Less s1 ok less same before =
    subst (λ o. PieceOutOfMemory piece old t s out o Less) (sym same)
    (subst (λ xs. PieceOutOfMemory xs old t s out mid Less) (sym before.split) (PieceOutOfMemory-now before.fed left old now t s out mid
    Less s1 ok (PieceAnswered-less before.fed old now t s out mid Ends Less s1 ok less before.answered_piece)))

-- a reader's step, and the answer to the command that it gave
pub PieceAnswered-got : (piece : List ℕ) (used : ℕ) (given : Option Command) (r r1 : Reading) (t : Tables) (s : Session)
    (out out' : Option (List ℕ)) (Ends : Tables → Type 0) (s' : Session) (ok : Bool)
    → ((rest : List ℕ) → script_from r (take used piece ++ rest) ≡ option_to_list given ++ script_from r1 rest)
    → ((rest : List ℕ) → complete_from r (take used piece ++ rest) ≡ option_to_list given ++ complete_from r1 rest)
    → complete_from r1 [] ≡ [] → (commands : List Command) → option_to_list given ≡ commands → Answered t s commands out out' Ends s' ok
    → PieceAnswered (take used piece) r r1 t s out out' Ends s' ok
PieceAnswered-got piece used given r r1 t s out out' Ends s' ok all ended none commands is answered = record {
  commands = commands;
  all = λ rest. all rest ∙ ap (λ cs. cs ++ script_from r1 rest) is;
  ended = λ rest. ended rest ∙ ap (λ cs. cs ++ complete_from r1 rest) is;
  open_end = none;
  answered = answered;
}

pub PieceCut-got : (piece : List ℕ) (used : ℕ) (given : Option Command) (r r1 : Reading) (Cut : List Command → Command → Type 0)
    → ((n : ℕ) → n < used → complete_from r (take n piece) ≡ [])
    → ((rest : List ℕ) → complete_from r (take used piece ++ rest) ≡ option_to_list given ++ complete_from r1 rest) → complete_from r1 []
    ≡ [] → (last : Command) → option_to_list given ≡ last ∷ [] → 0 < used → used ≤ length piece → Cut [] last → PieceCut piece r Cut
PieceCut-got piece used given r r1 Cut until ended none last is some within cut = record {
  most = take (used - 1) piece;
  byte = get_or piece (used - 1) 0;
  more = drop used piece;
  split = take-drop used piece ∙ ap (λ xs. xs ++ drop used piece) (front some within);
  done = [];
  last = last;
  before = until (used - 1) (omega arith);
  new = r1;
  ended = λ rest. ap (λ xs. complete_from r (xs ++ rest)) (sym (front some within)) ∙ ended rest
      ∙ ap (λ cs. cs ++ complete_from r1 rest) is;
  open_end = none;
  cut = cut;
} where
  front : 0 < used → used ≤ length piece → take used piece ≡ take (used - 1) piece ++ get_or piece (used - 1) 0 ∷ []
  front some within = let e : used ≡ used - 1 + 1 = omega arith in ap (λ n. take n piece) e ∙ take_more piece (used - 1) 0 (omega arith)

-- what is left of a keeper after one call and another
pub KeeperFrame-then : {K : Type 0} (g : Ghosts K) (k k1 k2 : K) → g.stopped k1 ≡ false → KeeperFrame g k k1 → KeeperFrame g k1 k2
    → KeeperFrame g k k2
KeeperFrame-then g k k1 k2 running one two = record {
  same = two.same ∙ one.same;
  later = le (g.faults k) (g.faults k1) (g.faults k2) one.later two.later;
  calm = λ runs. two.calm runs ∙ one.calm running;
  before = λ now. one.before (two.before now);
} where
  le : (a b c : ℕ) → a ≤ b → b ≤ c → a ≤ c
  le a b c one two = omega arith

pub KeeperFrame-start : {K : Type 0} (g : Ghosts K) (k : K) → KeeperFrame g k k
KeeperFrame-start g k = record { same = refl; later = le (g.faults k); calm = λ runs. refl; before = λ now. now } where
  le : (a : ℕ) → a ≤ a
  le a = omega arith

-- an error of one call is that of another
pub Err-at : {A B E : Type 0} (x y : E) → ◌≡◌ {A = Result A E} (Err x) (Err y) → ◌≡◌ {A = Result B E} (Err x) (Err y)
Err-at {A = A} {B = B} {E = E} x y e = ap Err (same e) where
  same : ◌≡◌ {A = Result A E} (Err x) (Err y) → x ≡ y
  same f = cc
