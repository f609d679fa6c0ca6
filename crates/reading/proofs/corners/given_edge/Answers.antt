-- `reading::corners::given_edge` goes by the orientation.
use Rattle.reading.proofs.corners.given_edge.Goals as goal

pub returns-in-Counterclockwise : goal.returns-in-Counterclockwise
returns-in-Counterclockwise c = rw c.in-Counterclockwise.is

pub returns-in-Clockwise : goal.returns-in-Clockwise
returns-in-Clockwise c = rw c.in-Clockwise.is
