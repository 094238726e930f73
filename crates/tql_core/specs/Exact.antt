-- Nodes that compare as equal are equal.
use Rattle.std.proofs.Common.{◌≡◌, ◌∙◌, refl, ap, true}
use Rattle.std.specs.Cmp.Lexicographic.{bytes_decides}
use Rattle.std.proofs.lemmas.Bool.{and_parts, false≢true, eqb-true}
use Rattle.std.proofs.lemmas.Bool.Decides.{Decides-int_eq}
use Rattle.tap_base.specs.declared.numbers.Op.{Op}
use Rattle.tap_base.specs.declared.numbers.Op.TheVariants.{Eq, Ne, Lt, Le, Gt, Ge}
use Rattle.tap_base.specs.contracts.numbers.OpPartialEq.TheImpl as op
use Rattle.tql_tree.specs.declared.table.Table.{Table}
use Rattle.tql_tree.specs.declared.table.Table.TheVariants.{Docs, Notes}
use Rattle.tql_tree.specs.contracts.table.TablePartialEq.TheImpl as table
use Rattle.tql_core.specs.declared.term.Var.{Var}
use Rattle.tql_core.specs.contracts.term.VarPartialEq.TheImpl as var
use Rattle.tql_core.specs.declared.term.Base.{Base}
use Rattle.tql_core.specs.declared.term.Base.TheVariants.{Arrival, Date, Fixed, ArrivalDay, DateDay}
use Rattle.tql_core.specs.contracts.term.BasePartialEq.TheImpl as base
use Rattle.tql_core.specs.declared.term.Term.{Term}
use Rattle.tql_core.specs.contracts.term.TermPartialEq.TheImpl as term
use Rattle.tql_core.specs.declared.atom.NumField.{NumField}
use Rattle.tql_core.specs.declared.atom.NumField.TheVariants.{Id, Size, DocOf, Value}
use Rattle.tql_core.specs.contracts.atom.NumFieldPartialEq.TheImpl as num_field
use Rattle.tql_core.specs.declared.atom.TextField.{TextField}
use Rattle.tql_core.specs.declared.atom.TextField.TheVariants.{From, Subject, MsgId, InReplyTo, Author, NoteKind, NoteText}
use Rattle.tql_core.specs.contracts.atom.TextFieldPartialEq.TheImpl as text_field
use Rattle.tql_core.specs.declared.atom.ListField.{ListField}
use Rattle.tql_core.specs.declared.atom.ListField.TheVariants.{To, Cc, Newsgroups, References, Words}
use Rattle.tql_core.specs.contracts.atom.ListFieldPartialEq.TheImpl as list_field
use Rattle.tql_core.specs.declared.atom.NumExpr.{NumExpr}
use Rattle.tql_core.specs.declared.atom.NumExpr.TheVariants.{Literal, Field}
use Rattle.tql_core.specs.contracts.atom.NumExprPartialEq.TheImpl as num_expr
use Rattle.tql_core.specs.declared.atom.TextExpr.{TextExpr}
use Rattle.tql_core.specs.declared.atom.TextExpr.TheVariants as X
use Rattle.tql_core.specs.contracts.atom.TextExprPartialEq.TheImpl as text_expr
use Rattle.tql_core.specs.declared.atom.Atom.{Atom}
use Rattle.tql_core.specs.declared.atom.Atom.TheVariants.{Numbers, Texts, Times, Has}
use Rattle.tql_core.specs.contracts.atom.AtomPartialEq.TheImpl as atom
use Rattle.tql_core.specs.declared.tnode.TNode.{TNode}
use Rattle.tql_core.specs.declared.tnode.TNode.TheVariants as N
use Rattle.tql_core.specs.contracts.tnode.TNodePartialEq.TheImpl as node
use Rattle.node_pool.specs.declared.node.NodeId.{NodeId}

pub var_is : (v w : Var) → var.ghosts.eq v w ≡ true → v ≡ w
var_is v w h = ap (λ k. record { 0 = k }) (eqb-true v.0 w.0 h)

pub table_is : (a b : Table) → table.ghosts.eq a b ≡ true → a ≡ b
table_is Docs Docs h = refl
table_is Notes Notes h = refl
table_is _ _ h = absurd (false≢true h)

op_is : (a b : Op) → op.ghosts.eq a b ≡ true → a ≡ b
op_is Eq Eq h = refl
op_is Ne Ne h = refl
op_is Lt Lt h = refl
op_is Le Le h = refl
op_is Gt Gt h = refl
op_is Ge Ge h = refl
op_is _ _ h = absurd (false≢true h)

num_field_is : (a b : NumField) → num_field.ghosts.eq a b ≡ true → a ≡ b
num_field_is Id Id h = refl
num_field_is Size Size h = refl
num_field_is DocOf DocOf h = refl
num_field_is Value Value h = refl
num_field_is _ _ h = absurd (false≢true h)

text_field_is : (a b : TextField) → text_field.ghosts.eq a b ≡ true → a ≡ b
text_field_is From From h = refl
text_field_is Subject Subject h = refl
text_field_is MsgId MsgId h = refl
text_field_is InReplyTo InReplyTo h = refl
text_field_is Author Author h = refl
text_field_is NoteKind NoteKind h = refl
text_field_is NoteText NoteText h = refl
text_field_is _ _ h = absurd (false≢true h)

list_field_is : (a b : ListField) → list_field.ghosts.eq a b ≡ true → a ≡ b
list_field_is To To h = refl
list_field_is Cc Cc h = refl
list_field_is Newsgroups Newsgroups h = refl
list_field_is References References h = refl
list_field_is Words Words h = refl
list_field_is _ _ h = absurd (false≢true h)

base_is : (a b : Base) → base.ghosts.eq a b ≡ true → a ≡ b
base_is (Arrival v) (Arrival w) h = ap Arrival (var_is v w h)
base_is (Date v) (Date w) h = ap Date (var_is v w h)
base_is Fixed Fixed h = refl
base_is (ArrivalDay v n) (ArrivalDay w k) h = let p = and_parts _ _ h in let x = var_is v w p.0 in let y = (Decides-int_eq n k).0 p.1 in cc
base_is (DateDay v n) (DateDay w k) h = let p = and_parts _ _ h in let x = var_is v w p.0 in let y = (Decides-int_eq n k).0 p.1 in cc
base_is _ _ h = absurd (false≢true h)

pub term_is : (a b : Term) → term.ghosts.eq a b ≡ true → a ≡ b
term_is a b h =
    let p = and_parts _ _ h in
    let x = base_is a.base b.base p.0 in
    let y = (Decides-int_eq a.plus b.plus).0 p.1 in
    ap (λ k. record { base = k; plus = a.plus }) x ∙ ap (λ k. record { base = b.base; plus = k }) y

num_expr_is : (a b : NumExpr) → num_expr.ghosts.eq a b ≡ true → a ≡ b
num_expr_is (Literal n) (Literal k) h = ap Literal ((Decides-int_eq n k).0 h)
num_expr_is (Field v f) (Field w g) h = let p = and_parts _ _ h in let x = var_is v w p.0 in let y = num_field_is f g p.1 in cc
num_expr_is _ _ h = absurd (false≢true h)

text_expr_is : (a b : TextExpr) → text_expr.ghosts.eq a b ≡ true → a ≡ b
text_expr_is (X.Literal s) (X.Literal t) h = ap X.Literal ((bytes_decides s t).0 h)
text_expr_is (X.Field v f) (X.Field w g) h = let p = and_parts _ _ h in let x = var_is v w p.0 in let y = text_field_is f g p.1 in cc
text_expr_is _ _ h = absurd (false≢true h)

pub atom_is : (a b : Atom) → atom.ghosts.eq a b ≡ true → a ≡ b
atom_is (Numbers x o y) (Numbers x' o' y') h =
    let p = and_parts _ _ h in
    let q = and_parts _ _ p.1 in
    let e = num_expr_is x x' p.0 in
    let f = op_is o o' q.0 in
    let g = num_expr_is y y' q.1 in
    cc
atom_is (Texts x o y) (Texts x' o' y') h =
    let p = and_parts _ _ h in
    let q = and_parts _ _ p.1 in
    let e = text_expr_is x x' p.0 in
    let f = op_is o o' q.0 in
    let g = text_expr_is y y' q.1 in
    cc
atom_is (Times x o y) (Times x' o' y') h =
    let p = and_parts _ _ h in
    let q = and_parts _ _ p.1 in
    let e = term_is x x' p.0 in
    let f = op_is o o' q.0 in
    let g = term_is y y' q.1 in
    cc
atom_is (Has v k y) (Has v' k' y') h =
    let p = and_parts _ _ h in
    let q = and_parts _ _ p.1 in
    let e = var_is v v' p.0 in
    let f = list_field_is k k' q.0 in
    let g = text_expr_is y y' q.1 in
    cc
atom_is _ _ h = absurd (false≢true h)

id_is : (a b : NodeId) → (a.0 ≡ b.0) → a ≡ b
id_is a b e = ap (λ k. record { 0 = k }) e

pub node_is : (x y : TNode) → node.ghosts.eq x y ≡ true → x ≡ y
node_is N.True N.True h = refl
node_is N.False N.False h = refl
node_is (N.Plain a) (N.Plain b) h = ap N.Plain (atom_is a b h)
node_is (N.All l r) (N.All l' r') h =
    let p = and_parts _ _ h in
    let e = id_is l l' (eqb-true l.0 l'.0 p.0) in
    let f = id_is r r' (eqb-true r.0 r'.0 p.1) in
    cc
node_is (N.Either l r) (N.Either l' r') h =
    let p = and_parts _ _ h in
    let e = id_is l l' (eqb-true l.0 l'.0 p.0) in
    let f = id_is r r' (eqb-true r.0 r'.0 p.1) in
    cc
node_is (N.Not x) (N.Not y) h = ap N.Not (id_is x y (eqb-true x.0 y.0 h))
node_is (N.Exists v t x) (N.Exists w u y) h =
    let p = and_parts _ _ h in
    let q = and_parts _ _ p.1 in
    let e = var_is v w p.0 in
    let f = table_is t u q.0 in
    let g = id_is x y (eqb-true x.0 y.0 q.1) in
    cc
node_is _ _ h = absurd (false≢true h)
