-- What stands for a path while a search is there.
use Rattle.std.specs.Prelude.{◌≡◌, ℕ, ◌*◌, ◌≤◌, Bool, true, List, [], Option, length, reverse, slice_index_or}
use Rattle.fux_grid.specs.declared.cell.Cell.{Cell}
use Rattle.fux_grid.specs.declared.exercise.Exercise.{Exercise}
use Rattle.fux_grid.specs.Columns.{ColumnFollows, Columns, newest_column}
use Rattle.fux_grid.specs.Menus.{menu_of}
use Rattle.penalty_sheet.specs.declared.sheet.Sheet.{Sheet}
use Rattle.fux_judge.specs.Gauges.{least_of}
use Rattle.fux_judge.specs.Penalties.{paid}
use Rattle.fux_judge.specs.Pruning.{IsFairWithin, IsToldColumn}
use Rattle.fux_judge.specs.States.{IsStateOf}
use Rattle.species_space.specs.Blocks.{columns_seen}
use Rattle.species_space.specs.declared.blocks.MenuView.{MenuView}
use Rattle.species_space.specs.declared.node.Node.{Node}
use Rattle.species_space.specs.Paths.{ArePassed, IsNoBetter, prefix_at, is_alive_path}

-- the node is of an alive path: its state is of the prefix, and it knows what is paid of it and
-- what its lines cost at least
pub record IsNodeOf (ex : Exercise) (sheet : Sheet) (node : Node) (path : List ℕ) : Type 0 where
  pub state : IsStateOf ex (prefix_at ex path) node.state
  pub alive : is_alive_path ex path ≡ true
  pub paid : node.paid ≡ paid ex sheet (prefix_at ex path)
  pub least : node.least ≡ least_of ex sheet (prefix_at ex path)
  pub few : node.paid ≤ 134217728 * length path
  pub little : node.least ≤ 334490640

-- the child of this number is no better than the best leaf so far, at whatever path the node stands
abbrev pub HasNoBetter : Bool → Exercise → Sheet → Node → Option ℕ → ℕ → Type 0
HasNoBetter chained ex sheet node best k =
    (path : List ℕ) → IsNodeOf ex sheet node path → IsNoBetter chained ex sheet path best k

-- and so is each from one number up to another
abbrev pub PassesOver : Bool → Exercise → Sheet → Node → Option ℕ → ℕ → ℕ → Type 0
PassesOver chained ex sheet node best from to =
    (path : List ℕ) → IsNodeOf ex sheet node path → ArePassed chained ex sheet path best from to

-- the column is the last one of the prefix, whatever prefix the node's state is of
abbrev pub ComesBefore : Exercise → Node → List Cell → Type 0
ComesBefore ex node before = (p : Columns) → IsStateOf ex p node.state → before ≡ newest_column (reverse p)

-- the column follows that one
abbrev pub FollowsBehind : Exercise → Node → List Cell → Type 0
FollowsBehind ex node col = (p : Columns) → IsStateOf ex p node.state → ColumnFollows (newest_column (reverse p)) col

-- what is told of a column behind a node: it follows the last one of the prefix, is sound, and
-- where nothing is relaxed it keeps the rules of melody, S16 and S17
pub record IsToldBehind (ex : Exercise) (node : Node) (col : List Cell) : Type 0 where
  pub kept : IsToldColumn ex node.state col
  pub follows : FollowsBehind ex node col

-- what is told of the child of a number
abbrev pub IsTold : Exercise → Node → ℕ → Type 0
IsTold ex node k = IsToldBehind ex node (slice_index_or (menu_of ex node.state.newest.len) k [])

-- the same of the column of a number in a menu
abbrev pub IsToldIn : Exercise → Node → MenuView → ℕ → Type 0
IsToldIn ex node menu k = IsToldBehind ex node (slice_index_or (columns_seen menu) k [])

-- its first cells keep these rules
abbrev pub IsFairIn : ℕ → Exercise → Node → MenuView → ℕ → Type 0
IsFairIn n ex node menu k = IsFairWithin n ex node.state (slice_index_or (columns_seen menu) k [])
