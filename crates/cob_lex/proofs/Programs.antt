-- Programs whose tokens are worked out.
use Rattle.std.proofs.Common.{ℕ, List, [], ◌∷◌, ◌++◌, codes}

-- lines, each with LF at its end
abbrev pub source : List (List ℕ) → List ℕ
source [] = []
source (line ∷ lines) = line ++ 10 ∷ source lines

-- sends each message back to its terminal
abbrev pub echo : List ℕ
echo = source (
    codes "       IDENTIFICATION DIVISION." ∷
    codes "       PROGRAM-ID. ECHO." ∷
    codes "       DATA DIVISION." ∷
    codes "       WORKING-STORAGE SECTION." ∷
    codes "       01  BUF PIC X(20)." ∷
    codes "       COMMUNICATION SECTION." ∷
    codes "       CD  INQ FOR INPUT" ∷
    codes "           SYMBOLIC QUEUE IS IN-NAME" ∷
    codes "           SYMBOLIC SOURCE IS IN-FROM" ∷
    codes "           TEXT LENGTH IS IN-LEN." ∷
    codes "       CD  OUTQ FOR OUTPUT" ∷
    codes "           DESTINATION COUNT IS OUT-COUNT" ∷
    codes "           TEXT LENGTH IS OUT-LEN" ∷
    codes "           SYMBOLIC DESTINATION IS OUT-TO." ∷
    codes "       PROCEDURE DIVISION." ∷
    codes "       FIRST-ONE." ∷
    codes "           MOVE \"Q1\" TO IN-NAME." ∷
    codes "           MOVE 1 TO OUT-COUNT." ∷
    codes "       NEXT-ONE." ∷
    codes "           RECEIVE INQ MESSAGE INTO BUF." ∷
    codes "           MOVE IN-LEN TO OUT-LEN." ∷
    codes "           MOVE IN-FROM TO OUT-TO." ∷
    codes "           SEND OUTQ FROM BUF WITH EMI." ∷
    codes "           GO TO NEXT-ONE." ∷ [])

-- a GO that leaves a performed range
abbrev pub leaver : List ℕ
leaver = source (
    codes "       IDENTIFICATION DIVISION." ∷
    codes "       PROGRAM-ID. LEAVER." ∷
    codes "       DATA DIVISION." ∷
    codes "       PROCEDURE DIVISION." ∷
    codes "       A1." ∷
    codes "           PERFORM B1." ∷
    codes "           STOP RUN." ∷
    codes "       B1." ∷
    codes "           GO TO A1." ∷ [])

-- takes orders, answers each, and sends a total at the end
abbrev pub orders : List ℕ
orders = source (
    codes "000100 IDENTIFICATION DIVISION." ∷
    codes "000200 PROGRAM-ID. ORDERS." ∷
    codes "000300 AUTHOR. Stock office." ∷
    codes "000400 ENVIRONMENT DIVISION." ∷
    codes "000500 CONFIGURATION SECTION." ∷
    codes "000600 SOURCE-COMPUTER. ANY-MACHINE." ∷
    codes "000700 OBJECT-COMPUTER. ANY-MACHINE." ∷
    codes "000800 DATA DIVISION." ∷
    codes "000900 WORKING-STORAGE SECTION." ∷
    codes "001000 77  TOTAL-QTY PIC 9(6) VALUE ZERO." ∷
    codes "001100 01  ORDER-REC." ∷
    codes "001200     02  ORD-KIND  PIC X." ∷
    codes "001300     02  ORD-NO    PIC 9(4)." ∷
    codes "001400     02  ORD-ITEM  PIC X(10)." ∷
    codes "001500     02  ORD-QTY   PIC 9(3)." ∷
    codes "001600 01  REPLY-REC." ∷
    codes "001700     02  REP-WORD  PIC X(9)." ∷
    codes "001800     02  REP-NO    PIC X(4)." ∷
    codes "001900 01  TOTAL-REC." ∷
    codes "002000     02  FILLER    PIC X(6) VALUE \"TOTAL \"." ∷
    codes "002100     02  TOT-OUT   PIC 9(6)." ∷
    codes "002200 COMMUNICATION SECTION." ∷
    codes "002300 CD  ORDER-IN FOR INITIAL INPUT" ∷
    codes "002400     SYMBOLIC QUEUE IS Q-NAME" ∷
    codes "002500     SYMBOLIC SOURCE IS Q-SOURCE" ∷
    codes "002600     STATUS KEY IS Q-STATUS." ∷
    codes "002700 CD  REPLY-OUT FOR OUTPUT" ∷
    codes "002800     DESTINATION COUNT IS R-COUNT" ∷
    codes "002900     TEXT LENGTH IS R-LENGTH" ∷
    codes "003000     STATUS KEY IS R-STATUS" ∷
    codes "003100     ERROR KEY IS R-ERROR" ∷
    codes "003200     SYMBOLIC DESTINATION IS R-DEST." ∷
    codes "003300 PROCEDURE DIVISION." ∷
    codes "003400 MAIN-LINE." ∷
    codes "003500     MOVE \"ORDERS\" TO Q-NAME." ∷
    codes "003600     MOVE 1 TO R-COUNT." ∷
    codes "003700     PERFORM ONE-ORDER THRU ONE-ORDER-END" ∷
    codes "003800         UNTIL ORD-KIND = \"T\"." ∷
    codes "003900     MOVE TOTAL-QTY TO TOT-OUT." ∷
    codes "004000     MOVE 12 TO R-LENGTH." ∷
    codes "004100     SEND REPLY-OUT FROM TOTAL-REC WITH EMI." ∷
    codes "004200     STOP RUN." ∷
    codes "004300 ONE-ORDER." ∷
    codes "004400     MOVE SPACES TO ORDER-REC." ∷
    codes "004500     RECEIVE ORDER-IN MESSAGE INTO ORDER-REC." ∷
    codes "004600     MOVE Q-SOURCE TO R-DEST." ∷
    codes "004700     IF ORD-KIND = \"T\" GO TO ONE-ORDER-END." ∷
    codes "004800     MOVE ORD-NO TO REP-NO." ∷
    codes "004900     IF ORD-QTY IS NUMERIC" ∷
    codes "005000         ADD ORD-QTY TO TOTAL-QTY" ∷
    codes "005100         MOVE \"ACCEPTED\" TO REP-WORD" ∷
    codes "005200     ELSE" ∷
    codes "005300         MOVE \"REJECTED\" TO REP-WORD." ∷
    codes "005400     MOVE 13 TO R-LENGTH." ∷
    codes "005500     SEND REPLY-OUT FROM REPLY-REC WITH EMI" ∷
    codes "005600         AFTER ADVANCING 1 LINE." ∷
    codes "005700 ONE-ORDER-END." ∷
    codes "005800     EXIT." ∷ [])
