-- The tokens of whole programs.
use Rattle.std.proofs.Common.{◌≡◌, List, [], ◌∷◌, ◌++◌, Ok, refl, codes}
use Rattle.cob_lex.specs.declared.token.Token.{Token}
use Rattle.cob_lex.specs.Fronts.{front_of}
use Rattle.cob_lex.specs.Lexing.{tokens_of, lines_tokens, text_tokens}
use Rattle.cob_lex.proofs.Programs.{echo, leaver, orders}
use Rattle.cob_lex.proofs.Written.{on, word, number, literal, picture, period, equal}

-- the tokens of ECHO
abbrev pub echo_list : List Token
echo_list =
    on 1 0 (word 8 (codes "IDENTIFICATION") ∷ word 23 (codes "DIVISION") ∷ period 31 (codes ".") ∷ []) ++
    on 2 32 (word 8 (codes "PROGRAM-ID") ∷ period 18 (codes ".") ∷ word 20 (codes "ECHO") ∷ period 24 (codes ".") ∷ []) ++
    on 3 57 (word 8 (codes "DATA") ∷ word 13 (codes "DIVISION") ∷ period 21 (codes ".") ∷ []) ++
    on 4 79 (word 8 (codes "WORKING-STORAGE") ∷ word 24 (codes "SECTION") ∷ period 31 (codes ".") ∷ []) ++
    on 5 111 (number 8 (codes "01") ∷ word 12 (codes "BUF") ∷ word 16 (codes "PIC") ∷ picture 20 (codes "X(20)") ∷ period 25 (codes ".") ∷ []) ++
    on 6 137 (word 8 (codes "COMMUNICATION") ∷ word 22 (codes "SECTION") ∷ period 29 (codes ".") ∷ []) ++
    on 7 167 (word 8 (codes "CD") ∷ word 12 (codes "INQ") ∷ word 16 (codes "FOR") ∷ word 20 (codes "INPUT") ∷ []) ++
    on 8 192 (word 12 (codes "SYMBOLIC") ∷ word 21 (codes "QUEUE") ∷ word 27 (codes "IS") ∷ word 30 (codes "IN-NAME") ∷ []) ++
    on 9 229 (word 12 (codes "SYMBOLIC") ∷ word 21 (codes "SOURCE") ∷ word 28 (codes "IS") ∷ word 31 (codes "IN-FROM") ∷ []) ++
    on 10 267 (word 12 (codes "TEXT") ∷ word 17 (codes "LENGTH") ∷ word 24 (codes "IS") ∷ word 27 (codes "IN-LEN") ∷ period 33 (codes ".") ∷ []) ++
    on 11 301 (word 8 (codes "CD") ∷ word 12 (codes "OUTQ") ∷ word 17 (codes "FOR") ∷ word 21 (codes "OUTPUT") ∷ []) ++
    on 12 328 (word 12 (codes "DESTINATION") ∷ word 24 (codes "COUNT") ∷ word 30 (codes "IS") ∷ word 33 (codes "OUT-COUNT") ∷ []) ++
    on 13 370 (word 12 (codes "TEXT") ∷ word 17 (codes "LENGTH") ∷ word 24 (codes "IS") ∷ word 27 (codes "OUT-LEN") ∷ []) ++
    on 14 404 (word 12 (codes "SYMBOLIC") ∷ word 21 (codes "DESTINATION") ∷ word 33 (codes "IS") ∷ word 36 (codes "OUT-TO") ∷ period 42 (codes ".") ∷ []) ++
    on 15 447 (word 8 (codes "PROCEDURE") ∷ word 18 (codes "DIVISION") ∷ period 26 (codes ".") ∷ []) ++
    on 16 474 (word 8 (codes "FIRST-ONE") ∷ period 17 (codes ".") ∷ []) ++
    on 17 492 (word 12 (codes "MOVE") ∷ literal 17 (codes "\"Q1\"") ∷ word 22 (codes "TO") ∷ word 25 (codes "IN-NAME") ∷ period 32 (codes ".") ∷ []) ++
    on 18 525 (word 12 (codes "MOVE") ∷ number 17 (codes "1") ∷ word 19 (codes "TO") ∷ word 22 (codes "OUT-COUNT") ∷ period 31 (codes ".") ∷ []) ++
    on 19 557 (word 8 (codes "NEXT-ONE") ∷ period 16 (codes ".") ∷ []) ++
    on 20 574 (word 12 (codes "RECEIVE") ∷ word 20 (codes "INQ") ∷ word 24 (codes "MESSAGE") ∷ word 32 (codes "INTO") ∷ word 37 (codes "BUF") ∷ period 40 (codes ".") ∷ []) ++
    on 21 615 (word 12 (codes "MOVE") ∷ word 17 (codes "IN-LEN") ∷ word 24 (codes "TO") ∷ word 27 (codes "OUT-LEN") ∷ period 34 (codes ".") ∷ []) ++
    on 22 650 (word 12 (codes "MOVE") ∷ word 17 (codes "IN-FROM") ∷ word 25 (codes "TO") ∷ word 28 (codes "OUT-TO") ∷ period 34 (codes ".") ∷ []) ++
    on 23 685 (word 12 (codes "SEND") ∷ word 17 (codes "OUTQ") ∷ word 22 (codes "FROM") ∷ word 27 (codes "BUF") ∷ word 31 (codes "WITH") ∷ word 36 (codes "EMI") ∷ period 39 (codes ".") ∷ []) ++
    on 24 725 (word 12 (codes "GO") ∷ word 15 (codes "TO") ∷ word 18 (codes "NEXT-ONE") ∷ period 26 (codes ".") ∷ [])

pub echo_tokens : tokens_of echo ≡ Ok echo_list
unfolding lines_tokens text_tokens front_of
echo_tokens = refl

-- the tokens of LEAVER
abbrev pub leaver_list : List Token
leaver_list =
    on 1 0 (word 8 (codes "IDENTIFICATION") ∷ word 23 (codes "DIVISION") ∷ period 31 (codes ".") ∷ []) ++
    on 2 32 (word 8 (codes "PROGRAM-ID") ∷ period 18 (codes ".") ∷ word 20 (codes "LEAVER") ∷ period 26 (codes ".") ∷ []) ++
    on 3 59 (word 8 (codes "DATA") ∷ word 13 (codes "DIVISION") ∷ period 21 (codes ".") ∷ []) ++
    on 4 81 (word 8 (codes "PROCEDURE") ∷ word 18 (codes "DIVISION") ∷ period 26 (codes ".") ∷ []) ++
    on 5 108 (word 8 (codes "A1") ∷ period 10 (codes ".") ∷ []) ++
    on 6 119 (word 12 (codes "PERFORM") ∷ word 20 (codes "B1") ∷ period 22 (codes ".") ∷ []) ++
    on 7 142 (word 12 (codes "STOP") ∷ word 17 (codes "RUN") ∷ period 20 (codes ".") ∷ []) ++
    on 8 163 (word 8 (codes "B1") ∷ period 10 (codes ".") ∷ []) ++
    on 9 174 (word 12 (codes "GO") ∷ word 15 (codes "TO") ∷ word 18 (codes "A1") ∷ period 20 (codes ".") ∷ [])

pub leaver_tokens : tokens_of leaver ≡ Ok leaver_list
unfolding lines_tokens text_tokens front_of
leaver_tokens = refl

-- the tokens of ORDERS
abbrev pub orders_list : List Token
orders_list =
    on 1 0 (word 8 (codes "IDENTIFICATION") ∷ word 23 (codes "DIVISION") ∷ period 31 (codes ".") ∷ []) ++
    on 2 32 (word 8 (codes "PROGRAM-ID") ∷ period 18 (codes ".") ∷ word 20 (codes "ORDERS") ∷ period 26 (codes ".") ∷ []) ++
    on 4 88 (word 8 (codes "ENVIRONMENT") ∷ word 20 (codes "DIVISION") ∷ period 28 (codes ".") ∷ []) ++
    on 5 117 (word 8 (codes "CONFIGURATION") ∷ word 22 (codes "SECTION") ∷ period 29 (codes ".") ∷ []) ++
    on 6 147 (word 8 (codes "SOURCE-COMPUTER") ∷ period 23 (codes ".") ∷ word 25 (codes "ANY-MACHINE") ∷ period 36 (codes ".") ∷ []) ++
    on 7 184 (word 8 (codes "OBJECT-COMPUTER") ∷ period 23 (codes ".") ∷ word 25 (codes "ANY-MACHINE") ∷ period 36 (codes ".") ∷ []) ++
    on 8 221 (word 8 (codes "DATA") ∷ word 13 (codes "DIVISION") ∷ period 21 (codes ".") ∷ []) ++
    on 9 243 (word 8 (codes "WORKING-STORAGE") ∷ word 24 (codes "SECTION") ∷ period 31 (codes ".") ∷ []) ++
    on 10 275 (number 8 (codes "77") ∷ word 12 (codes "TOTAL-QTY") ∷ word 22 (codes "PIC") ∷ picture 26 (codes "9(6)") ∷ word 31 (codes "VALUE") ∷ word 37 (codes "ZERO") ∷ period 41 (codes ".") ∷ []) ++
    on 11 317 (number 8 (codes "01") ∷ word 12 (codes "ORDER-REC") ∷ period 21 (codes ".") ∷ []) ++
    on 12 339 (number 12 (codes "02") ∷ word 16 (codes "ORD-KIND") ∷ word 26 (codes "PIC") ∷ picture 30 (codes "X") ∷ period 31 (codes ".") ∷ []) ++
    on 13 371 (number 12 (codes "02") ∷ word 16 (codes "ORD-NO") ∷ word 26 (codes "PIC") ∷ picture 30 (codes "9(4)") ∷ period 34 (codes ".") ∷ []) ++
    on 14 406 (number 12 (codes "02") ∷ word 16 (codes "ORD-ITEM") ∷ word 26 (codes "PIC") ∷ picture 30 (codes "X(10)") ∷ period 35 (codes ".") ∷ []) ++
    on 15 442 (number 12 (codes "02") ∷ word 16 (codes "ORD-QTY") ∷ word 26 (codes "PIC") ∷ picture 30 (codes "9(3)") ∷ period 34 (codes ".") ∷ []) ++
    on 16 477 (number 8 (codes "01") ∷ word 12 (codes "REPLY-REC") ∷ period 21 (codes ".") ∷ []) ++
    on 17 499 (number 12 (codes "02") ∷ word 16 (codes "REP-WORD") ∷ word 26 (codes "PIC") ∷ picture 30 (codes "X(9)") ∷ period 34 (codes ".") ∷ []) ++
    on 18 534 (number 12 (codes "02") ∷ word 16 (codes "REP-NO") ∷ word 26 (codes "PIC") ∷ picture 30 (codes "X(4)") ∷ period 34 (codes ".") ∷ []) ++
    on 19 569 (number 8 (codes "01") ∷ word 12 (codes "TOTAL-REC") ∷ period 21 (codes ".") ∷ []) ++
    on 20 591 (number 12 (codes "02") ∷ word 16 (codes "FILLER") ∷ word 26 (codes "PIC") ∷ picture 30 (codes "X(6)") ∷ word 35 (codes "VALUE") ∷ literal 41 (codes "\"TOTAL \"") ∷ period 49 (codes ".") ∷ []) ++
    on 21 641 (number 12 (codes "02") ∷ word 16 (codes "TOT-OUT") ∷ word 26 (codes "PIC") ∷ picture 30 (codes "9(6)") ∷ period 34 (codes ".") ∷ []) ++
    on 22 676 (word 8 (codes "COMMUNICATION") ∷ word 22 (codes "SECTION") ∷ period 29 (codes ".") ∷ []) ++
    on 23 706 (word 8 (codes "CD") ∷ word 12 (codes "ORDER-IN") ∷ word 21 (codes "FOR") ∷ word 25 (codes "INITIAL") ∷ word 33 (codes "INPUT") ∷ []) ++
    on 24 744 (word 12 (codes "SYMBOLIC") ∷ word 21 (codes "QUEUE") ∷ word 27 (codes "IS") ∷ word 30 (codes "Q-NAME") ∷ []) ++
    on 25 780 (word 12 (codes "SYMBOLIC") ∷ word 21 (codes "SOURCE") ∷ word 28 (codes "IS") ∷ word 31 (codes "Q-SOURCE") ∷ []) ++
    on 26 819 (word 12 (codes "STATUS") ∷ word 19 (codes "KEY") ∷ word 23 (codes "IS") ∷ word 26 (codes "Q-STATUS") ∷ period 34 (codes ".") ∷ []) ++
    on 27 854 (word 8 (codes "CD") ∷ word 12 (codes "REPLY-OUT") ∷ word 22 (codes "FOR") ∷ word 26 (codes "OUTPUT") ∷ []) ++
    on 28 886 (word 12 (codes "DESTINATION") ∷ word 24 (codes "COUNT") ∷ word 30 (codes "IS") ∷ word 33 (codes "R-COUNT") ∷ []) ++
    on 29 926 (word 12 (codes "TEXT") ∷ word 17 (codes "LENGTH") ∷ word 24 (codes "IS") ∷ word 27 (codes "R-LENGTH") ∷ []) ++
    on 30 961 (word 12 (codes "STATUS") ∷ word 19 (codes "KEY") ∷ word 23 (codes "IS") ∷ word 26 (codes "R-STATUS") ∷ []) ++
    on 31 995 (word 12 (codes "ERROR") ∷ word 18 (codes "KEY") ∷ word 22 (codes "IS") ∷ word 25 (codes "R-ERROR") ∷ []) ++
    on 32 1027 (word 12 (codes "SYMBOLIC") ∷ word 21 (codes "DESTINATION") ∷ word 33 (codes "IS") ∷ word 36 (codes "R-DEST") ∷ period 42 (codes ".") ∷ []) ++
    on 33 1070 (word 8 (codes "PROCEDURE") ∷ word 18 (codes "DIVISION") ∷ period 26 (codes ".") ∷ []) ++
    on 34 1097 (word 8 (codes "MAIN-LINE") ∷ period 17 (codes ".") ∷ []) ++
    on 35 1115 (word 12 (codes "MOVE") ∷ literal 17 (codes "\"ORDERS\"") ∷ word 26 (codes "TO") ∷ word 29 (codes "Q-NAME") ∷ period 35 (codes ".") ∷ []) ++
    on 36 1151 (word 12 (codes "MOVE") ∷ number 17 (codes "1") ∷ word 19 (codes "TO") ∷ word 22 (codes "R-COUNT") ∷ period 29 (codes ".") ∷ []) ++
    on 37 1181 (word 12 (codes "PERFORM") ∷ word 20 (codes "ONE-ORDER") ∷ word 30 (codes "THRU") ∷ word 35 (codes "ONE-ORDER-END") ∷ []) ++
    on 38 1229 (word 16 (codes "UNTIL") ∷ word 22 (codes "ORD-KIND") ∷ equal 31 (codes "=") ∷ literal 33 (codes "\"T\"") ∷ period 36 (codes ".") ∷ []) ++
    on 39 1266 (word 12 (codes "MOVE") ∷ word 17 (codes "TOTAL-QTY") ∷ word 27 (codes "TO") ∷ word 30 (codes "TOT-OUT") ∷ period 37 (codes ".") ∷ []) ++
    on 40 1304 (word 12 (codes "MOVE") ∷ number 17 (codes "12") ∷ word 20 (codes "TO") ∷ word 23 (codes "R-LENGTH") ∷ period 31 (codes ".") ∷ []) ++
    on 41 1336 (word 12 (codes "SEND") ∷ word 17 (codes "REPLY-OUT") ∷ word 27 (codes "FROM") ∷ word 32 (codes "TOTAL-REC") ∷ word 42 (codes "WITH") ∷ word 47 (codes "EMI") ∷ period 50 (codes ".") ∷ []) ++
    on 42 1387 (word 12 (codes "STOP") ∷ word 17 (codes "RUN") ∷ period 20 (codes ".") ∷ []) ++
    on 43 1408 (word 8 (codes "ONE-ORDER") ∷ period 17 (codes ".") ∷ []) ++
    on 44 1426 (word 12 (codes "MOVE") ∷ word 17 (codes "SPACES") ∷ word 24 (codes "TO") ∷ word 27 (codes "ORDER-REC") ∷ period 36 (codes ".") ∷ []) ++
    on 45 1463 (word 12 (codes "RECEIVE") ∷ word 20 (codes "ORDER-IN") ∷ word 29 (codes "MESSAGE") ∷ word 37 (codes "INTO") ∷ word 42 (codes "ORDER-REC") ∷ period 51 (codes ".") ∷ []) ++
    on 46 1515 (word 12 (codes "MOVE") ∷ word 17 (codes "Q-SOURCE") ∷ word 26 (codes "TO") ∷ word 29 (codes "R-DEST") ∷ period 35 (codes ".") ∷ []) ++
    on 47 1551 (word 12 (codes "IF") ∷ word 15 (codes "ORD-KIND") ∷ equal 24 (codes "=") ∷ literal 26 (codes "\"T\"") ∷ word 30 (codes "GO") ∷ word 33 (codes "TO") ∷ word 36 (codes "ONE-ORDER-END") ∷ period 49 (codes ".") ∷ []) ++
    on 48 1601 (word 12 (codes "MOVE") ∷ word 17 (codes "ORD-NO") ∷ word 24 (codes "TO") ∷ word 27 (codes "REP-NO") ∷ period 33 (codes ".") ∷ []) ++
    on 49 1635 (word 12 (codes "IF") ∷ word 15 (codes "ORD-QTY") ∷ word 23 (codes "IS") ∷ word 26 (codes "NUMERIC") ∷ []) ++
    on 50 1668 (word 16 (codes "ADD") ∷ word 20 (codes "ORD-QTY") ∷ word 28 (codes "TO") ∷ word 31 (codes "TOTAL-QTY") ∷ []) ++
    on 51 1708 (word 16 (codes "MOVE") ∷ literal 21 (codes "\"ACCEPTED\"") ∷ word 32 (codes "TO") ∷ word 35 (codes "REP-WORD") ∷ []) ++
    on 52 1751 (word 12 (codes "ELSE") ∷ []) ++
    on 53 1767 (word 16 (codes "MOVE") ∷ literal 21 (codes "\"REJECTED\"") ∷ word 32 (codes "TO") ∷ word 35 (codes "REP-WORD") ∷ period 43 (codes ".") ∷ []) ++
    on 54 1811 (word 12 (codes "MOVE") ∷ number 17 (codes "13") ∷ word 20 (codes "TO") ∷ word 23 (codes "R-LENGTH") ∷ period 31 (codes ".") ∷ []) ++
    on 55 1843 (word 12 (codes "SEND") ∷ word 17 (codes "REPLY-OUT") ∷ word 27 (codes "FROM") ∷ word 32 (codes "REPLY-REC") ∷ word 42 (codes "WITH") ∷ word 47 (codes "EMI") ∷ []) ++
    on 56 1893 (word 16 (codes "AFTER") ∷ word 22 (codes "ADVANCING") ∷ number 32 (codes "1") ∷ word 34 (codes "LINE") ∷ period 38 (codes ".") ∷ []) ++
    on 57 1932 (word 8 (codes "ONE-ORDER-END") ∷ period 21 (codes ".") ∷ []) ++
    on 58 1954 (word 12 (codes "EXIT") ∷ period 16 (codes ".") ∷ [])

pub orders_tokens : tokens_of orders ≡ Ok orders_list
unfolding lines_tokens text_tokens front_of
orders_tokens = refl
